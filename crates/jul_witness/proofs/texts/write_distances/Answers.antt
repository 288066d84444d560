use Rattle.jul_witness.specs.Texts.{distances_text}
use Rattle.jul_witness.proofs.ResultLaws.{reads-distances_text, distances_text-short}
use Rattle.jul_witness.proofs.texts.write_distances.Goals as goal

pub returns-clause-ok : goal.returns-clause-ok
unfolding distances_text
returns-clause-ok g c = rw (c.as_slice.ensures, c.as_slice-2.ensures, c.as_slice-3.ensures) at c.write_triples.ensures.ok

pub returns-clause-err : goal.returns-clause-err
unfolding distances_text
returns-clause-err g c = rw (c.as_slice.ensures, c.as_slice-2.ensures, c.as_slice-3.ensures) at c.write_triples.ensures.err

pub returns-clause-read_back : goal.returns-clause-read_back
returns-clause-read_back g c =
    reads-distances_text c.args.m c.args.sources.now c.args.d.now c.requires.few c.requires.sources c.fit_32_bits.ensures c.requires.lawful
    c.has_64_bits.ensures c.has_64_bits-2.ensures c.has_64_bits-3.ensures

pub returns-clause-short : goal.returns-clause-short
returns-clause-short g c =
    distances_text-short c.args.m c.args.sources.now c.args.d.now c.requires.few c.requires.sources c.fit_32_bits.ensures c.requires.lawful
    c.has_64_bits.ensures c.has_64_bits-2.ensures c.has_64_bits-3.ensures

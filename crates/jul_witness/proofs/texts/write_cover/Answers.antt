use Rattle.jul_witness.specs.Texts.{cover_text}
use Rattle.jul_witness.proofs.ResultLaws.{reads-cover_text, cover_text-short}
use Rattle.jul_witness.proofs.texts.write_cover.Goals as goal

pub returns-clause-ok : goal.returns-clause-ok
unfolding cover_text
returns-clause-ok g c = rw (c.as_slice.ensures, c.as_slice-2.ensures) at c.write_pairs.ensures.ok

pub returns-clause-err : goal.returns-clause-err
unfolding cover_text
returns-clause-err g c = rw (c.as_slice.ensures, c.as_slice-2.ensures) at c.write_pairs.ensures.err

pub returns-clause-read_back : goal.returns-clause-read_back
returns-clause-read_back g c = reads-cover_text c.args.m c.args.c.now c.requires.few c.requires.lawful c.has_64_bits.ensures c.has_64_bits-2.ensures

pub returns-clause-short : goal.returns-clause-short
returns-clause-short g c = cover_text-short c.args.m c.args.c.now c.requires.few c.requires.lawful c.has_64_bits.ensures c.has_64_bits-2.ensures

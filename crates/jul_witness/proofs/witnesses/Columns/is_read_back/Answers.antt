use Rattle.std.proofs.Common.{◌≡◌, ℕ, List, Ok, sym, subst, arith}
use Rattle.jul_base.specs.declared.limits.TheConstants.{MAX_BYTES}
use Rattle.jul_witness.specs.declared.witnesses.Columns.{Columns}
use Rattle.jul_witness.specs.Lawful.{IsLawful}
use Rattle.jul_witness.specs.Texts.{columns_text, witness_of_columns}
use Rattle.jul_witness.specs.Reading.{reads_witness}
use Rattle.jul_witness.proofs.ResultLaws.{reads-cores_text, reads-distances_text, reads-cover_text, cores_text-short, distances_text-short, cover_text-short}
use Rattle.jul_witness.proofs.witnesses.Columns.is_read_back.Goals as goal

abbrev IsReadBack : ℕ → List ℕ → Columns → Type 0
IsReadBack m sources result = reads_witness (columns_text m sources result) MAX_BYTES ≡ Ok (witness_of_columns m sources result)

pub returns-in-Cores : goal.returns-in-Cores
returns-in-Cores c =
    let v = c.in-Cores.c in
    let m = c.args.m in
    let few = c.requires.few in
    let lawful = subst IsLawful c.in-Cores.is c.requires.lawful in
    let core = c.has_64_bits.ensures in
    let level = c.has_64_bits-in-Cores.ensures in
    subst (IsReadBack m c.args.sources.now) (sym c.in-Cores.is) (reads-cores_text m v few lawful core level MAX_BYTES (omega (arith, cores_text-short m v few lawful core level)))

pub returns-in-Distances : goal.returns-in-Distances
returns-in-Distances c =
    let v = c.in-Distances.d in
    let m = c.args.m in
    let few = c.requires.few in
    let sources = c.args.sources.now in
    let named = c.requires.sources in
    let small = c.fit_32_bits.ensures in
    let lawful = subst IsLawful c.in-Distances.is c.requires.lawful in
    let dist = c.has_64_bits-in-Distances.ensures in
    let hops = c.has_64_bits-in-Distances-2.ensures in
    let parent = c.has_64_bits-in-Distances-3.ensures in
    subst (IsReadBack m sources) (sym c.in-Distances.is)
    (reads-distances_text m sources v few named small lawful dist hops parent MAX_BYTES (omega (arith, distances_text-short m sources v few named small lawful dist hops parent)))

pub returns-in-Cover : goal.returns-in-Cover
returns-in-Cover c =
    let v = c.in-Cover.c in
    let m = c.args.m in
    let few = c.requires.few in
    let lawful = subst IsLawful c.in-Cover.is c.requires.lawful in
    let round = c.has_64_bits-in-Cover.ensures in
    let by = c.has_64_bits-in-Cover-2.ensures in
    subst (IsReadBack m c.args.sources.now) (sym c.in-Cover.is) (reads-cover_text m v few lawful round by MAX_BYTES (omega (arith, cover_text-short m v few lawful round by)))

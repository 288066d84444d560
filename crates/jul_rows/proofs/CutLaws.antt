-- Lists that bounds cut: how many parts there are, and what each is.
use Rattle.std.proofs.Common.{◌≡◌, ℕ, ◌+◌, ◌-◌, ◌<◌, List, [], length, get_or, arith}
use Rattle.std.proofs.lemmas.List.FromFn.{length-map-range_with_len, get_or-map-range_with_len}
use Rattle.std.proofs.lemmas.List.Edits.{length-between}
use Rattle.jul_rows.specs.Cuts.{part, part_count, parts, IsCut}

pub length-parts : (bounds items : List ℕ) → length (parts bounds items) ≡ length bounds - 1
length-parts bounds items = length-map-range_with_len (part bounds items) 0 (part_count bounds)

pub get_or-parts : (bounds items : List ℕ) (v : ℕ) → v + 1 < length bounds → get_or (parts bounds items) v [] ≡ part bounds items v
get_or-parts bounds items v lt =
    get_or-map-range_with_len (part bounds items) 0 (part_count bounds) v v [] (omega arith) (omega arith)

pub length-part : (bounds items : List ℕ) (size : ℕ) → IsCut bounds size → length items ≡ size → (v : ℕ) → v + 1 < length bounds →
    length (part bounds items v) ≡ get_or bounds (v + 1) 0 - get_or bounds v 0
length-part bounds items size cut is v lt =
    length-between items (get_or bounds v 0) (get_or bounds (v + 1) 0) (omega (arith, cut.within (v + 1) lt, is))

-- A table's name tells which table it is, so a call meets its own seats alone.
use Rattle.std.proofs.Common.{◌≡◌, ℕ, ◌+◌, ◌<◌, List, length, get_or, drop, ap, sym, ◌∙◌, subst, arith}
use Rattle.atomic_table.specs.Seated.{TableId}
use Rattle.jul_words.specs.Seats.{Seat, name_of, named}

-- the table that a name names
table_of : List ℕ → TableId
table_of xs = record { words = get_or xs 0 0; slots = get_or xs 1 0; views_name = get_or xs 2 0; atom = get_or xs 3 0; block = get_or xs 4 0; offset = get_or xs 5 0; slot_names = drop 6 xs }

pub same_table : (a b : TableId) → name_of a ≡ name_of b → a ≡ b
unfolding table_of
same_table a b e = ap table_of e

-- a seat s of the table a meets the table b, by which it was called
pub record Meets (a b : TableId) (s old : Seat) : Type 0 where
  pub same : a ≡ b
  pub some_word : 0 < b.words
  pub near : (v : ℕ) → v < length old.home.starts → v < length s.home.starts
  pub in_table : (v : ℕ) → v < length old.home.starts → v + 1 < b.words

-- where the caller sees the seat as old, one of the table with this name
pub meets : (s : Seat) (a b : TableId) (old : Seat) (table : List ℕ) → named (name_of a) s ≡ old → a.words ≡ length s.home.starts + 1 → name_of b ≡ table → old.home.table ≡ table → Meets a b s old
meets s a b old table is size name of_it =
    let same : a ≡ b = same_table a b (ap (λ (t : Seat). t.home.table) is ∙ of_it ∙ sym name) in let words = ap (λ (z : TableId). z.words) same in
    let near : (v : ℕ) → v < length old.home.starts → v < length s.home.starts = λ v lt. subst (λ (t : Seat). v < length t.home.starts) (sym is) lt in
    record { same = same; some_word = omega arith; near = near; in_table = λ v lt. omega (arith, near v lt) }

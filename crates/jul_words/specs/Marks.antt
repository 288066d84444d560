-- Entries of a vertex with a number, and those of them that are marked.
use Rattle.std.specs.Prelude.{ℕ, List, ◌==◌, ◌&&◌}
use Rattle.jul_base.specs.Logs.{Entry}
use Rattle.jul_words.specs.Weights.{counted, weigh}

abbrev pub is_at : ℕ → ℕ → Entry → ℕ
is_at v c e = counted ((e.vertex == v) && (e.number == c))

abbrev pub is_marked : ℕ → ℕ → Entry → ℕ
is_marked v c e = counted (((e.vertex == v) && (e.number == c)) && (e.mark == 1))

-- how many entries of v with the number c are marked
abbrev pub marks : ℕ → ℕ → List Entry → ℕ
marks v c log = weigh (is_marked v c) log

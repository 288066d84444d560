-- The numbers of the options.
use Rattle.std.specs.Prelude.{ℕ, Option, Some, None, nat_le, if◌then◌else◌}
use Rattle.jul_text.specs.declared.numerals.Numeral.{Numeral}
use Rattle.jul_text.specs.declared.numerals.Numeral.TheVariants.{Value, Above, Negative, Bad}
use Rattle.jul_text.specs.Numerals.{numeral}
use Rattle.clap.specs.Words.{Text}

abbrev pub at_least : ℕ → Numeral → Option ℕ
at_least low (Value v) = if nat_le low v then Some v else None
at_least low Above = None
at_least low Negative = None
at_least low Bad = None

-- a text as a number from low to high: digits alone, where leading zeros are allowed
abbrev pub number_in : ℕ → ℕ → Text → Option ℕ
number_in low high text = at_least low (numeral text high)

-- the number of an option that has to be given
abbrev pub number : ℕ → ℕ → Option Text → Option ℕ
number low high None = None
number low high (Some text) = number_in low high text

-- the number of an option that may be left out
abbrev pub number_or : ℕ → ℕ → ℕ → Option Text → Option ℕ
number_or default low high None = Some default
number_or default low high (Some text) = number_in low high text

-- ---- the ranges and the defaults

abbrev pub source_number : Text → Option ℕ
source_number = number_in 0 4294967295

abbrev pub delta_number : Option Text → Option ℕ
delta_number = number 1 4294967295

abbrev pub open_number : Option Text → Option ℕ
open_number = number_or 128 1 65536

abbrev pub workers_number : Option Text → Option ℕ
workers_number = number_or 4 1 64

abbrev pub chunk_number : Option Text → Option ℕ
chunk_number = number_or 256 1 65536

abbrev pub n_number : Option Text → Option ℕ
n_number = number 1 16777216

abbrev pub pairs_number : Option Text → Option ℕ
pairs_number = number 0 67108864

abbrev pub seed_number : Option Text → Option ℕ
seed_number = number 0 18446744073709551615

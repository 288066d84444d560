-- Where a reader of a witness stands.
use Rattle.std.specs.Prelude.{◌≡◌, ℕ, ◌<◌, List, None, Some}
use Rattle.jul_text.specs.Tokens.{Word, tokens}
use Rattle.jul_text.specs.Scanning.{text_at, IsAt}
use Rattle.jul_witness.specs.declared.forms.Heading.{Heading}
use Rattle.jul_witness.specs.Forms.{heading_of}
use Rattle.jul_witness.specs.Faults.{kind_at}

-- no token before the number j has a fault
abbrev pub NoneBefore : Heading → List Word → ℕ → Type 0
NoneBefore heading ws j = (k : ℕ) → k < j → kind_at heading ws k ≡ None

-- the word in front was read, and no token up to here has a fault
pub record IsClean (heading : Heading) (bytes : List ℕ) (at token : ℕ) : Type 0 where
  pub here : IsAt bytes at token
  pub begun : 0 < token
  pub word : heading_of (text_at (tokens bytes) 0) ≡ Some heading
  pub none : NoneBefore heading (tokens bytes) token

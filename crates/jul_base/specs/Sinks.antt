-- What contracts see of a sink, and what was written to it in a call.
use Rattle.std.specs.Prelude.{◌≡◌, ◌⊎◌, ℕ, ◌<◌, ◌++◌, List, length, take, Option}
use Rattle.std.specs.Option.{option_map}

-- the bytes written, where the sink tells them, and how often it failed
pub record SinkState : Type 0 where
  pub written : Option (List ℕ)
  pub faults : ℕ

-- a count of faults rose, or stands still at the end of its type
abbrev pub Rose : ℕ → ℕ → Type 0
Rose old new = (old < new) ⊎ (new ≡ 18446744073709551615)

-- these bytes came behind those written before
pub record Appended (old new : SinkState) (text : List ℕ) : Type 0 where
  pub grown : new.written ≡ option_map (λ before. before ++ text) old.written

-- the first bytes of a text came behind those written before, and not all of them
pub record AppendedPart (old new : SinkState) (text : List ℕ) : Type 0 where
  pub count : ℕ
  pub short : count < length text
  pub part : Appended old new (take count text)

-- a writing failed by the sink's fault
pub record FailedWriting (old new : SinkState) (text : List ℕ) : Type 0 where
  pub rose : Rose old.faults new.faults
  pub part : AppendedPart old new text

-- a text of which everything came behind what was written at the start, but for the bytes that a block still holds
pub record IsSent (start now : SinkState) (block text : List ℕ) : Type 0 where
  pub sent : List ℕ
  pub whole : sent ++ block ≡ text
  pub appended : Appended start now sent

-- What a sink in memory tells.
use Rattle.std.specs.Prelude.{◌≡◌, ℕ, Some}
use Rattle.jul_base.specs.declared.memory_sinks.MemSink.{MemSink}
use Rattle.jul_base.specs.Sinks.{SinkState}

-- a sink in memory tells its bytes
abbrev pub sink_state : MemSink → SinkState
sink_state s = record { written = Some s.bytes.items; faults = s.faults }

-- how many writes were made
abbrev pub calls_of : MemSink → ℕ
calls_of s = s.calls

-- the capacity of the room that was given
abbrev pub room_of : MemSink → ℕ
room_of s = s.room

-- what no write changes: the most bytes of a write, the writes that fail, and the room
pub record HasKept (old new : MemSink) : Type 0 where
  pub most : new.most ≡ old.most
  pub fails : new.fails ≡ old.fails
  pub room : room_of new ≡ room_of old

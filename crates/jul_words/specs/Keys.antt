-- The home that a table's key says, in which the table has no name.
use Rattle.std.specs.Prelude.{[]}
use Rattle.jul_base.specs.Logs.{Home}
use Rattle.jul_words.specs.declared.tables.Key.{Key}
use Rattle.jul_words.specs.Seats.{home}

abbrev pub home_by : Key → Home
home_by key = home [] key.starts.numbers key.floors.numbers

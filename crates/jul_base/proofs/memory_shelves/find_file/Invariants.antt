use Rattle.std.proofs.Common.{◌≡◌, drop}
use Rattle.jul_base.specs.Shelves.{contents}
use Rattle.jul_base.specs.Memory.{files_of}
use Rattle.jul_base.proofs.memory_shelves.find_file.Given as goal

abbrev pub invariant-loop-i : goal.invariant-loop-i
invariant-loop-i l = contents (files_of (drop l.i l.files.items)) l.name ≡ contents (files_of l.files.items) l.name

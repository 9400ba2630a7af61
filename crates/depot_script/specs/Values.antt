-- The values of commands: as they are written, and as they are meant.
use Rattle.std.specs.Prelude.{Result, Ok, Err}
use Rattle.depot_script.specs.declared.command.Command.{Command}
use Rattle.depot_script.specs.declared.command.Command.TheVariants as command
use Rattle.depot_script.specs.declared.fault.CommandFault.{CommandFault}
use Rattle.depot_script.specs.declared.written.WrittenCommand.{WrittenCommand}
use Rattle.depot_script.specs.declared.written.WrittenCommand.TheVariants as word
use Rattle.depot_script.specs.CommandValues.{CommandOf, Nothing, Deliver, Drain, Query, Marks, Aside}
use Rattle.depot_script.specs.CommandValues.{Reclaim, End}
use Rattle.depot_script.specs.Written.{WrittenCommandOf}
use Rattle.depot_script.specs.Written as written

-- the same command, in bytes and lists
abbrev pub written_command : WrittenCommand → WrittenCommandOf
written_command (word.Deliver feed number closes size) =
    written.Deliver feed.now number.now closes.now size.now
written_command word.Drain = written.Drain
written_command (word.Query items) = written.Query items.items
written_command (word.Marks item) = written.Marks item
written_command (word.Aside feed) = written.Aside feed.now
written_command word.Reclaim = written.Reclaim
written_command word.End = written.End

-- the same command, with lists
abbrev pub command_value : Command → CommandOf
command_value command.Nothing = Nothing
command_value (command.Deliver feed number closes size) = Deliver feed number closes size
command_value command.Drain = Drain
command_value (command.Query items) = Query items
command_value (command.Marks items) = Marks items
command_value (command.Aside feed) = Aside feed
command_value command.Reclaim = Reclaim
command_value command.End = End

-- the value of what was read of a line
abbrev pub read_value : Result Command CommandFault → Result CommandOf CommandFault
read_value (Ok command) = Ok (command_value command)
read_value (Err fault) = Err fault

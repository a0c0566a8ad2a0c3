-- What the tasks of the controller cover, and which commands they lead to.
use Rattle.std.specs.Prelude.{ℕ, Bool, true}
use Rattle.command_words.specs.Command.{is_at}
use Rattle.command_words.specs.declared.command.Command.{Command}
use Rattle.command_words.specs.declared.command.Command.TheVariants.{PreSb, PreAb, RefAb, RefSb, RfmAb, RfmSb, Ecs as EcsCommand}
use Rattle.deadlines.specs.declared.task.Task.{Task}
use Rattle.deadlines.specs.declared.task.Task.TheVariants.{RfmAll, Ecs, RefAll, RefSame, RfmSame}

-- the task covers the bank with this number
abbrev pub task_covers : Task → ℕ → Bool
task_covers RfmAll b = true
task_covers Ecs b = true
task_covers RefAll b = true
task_covers (RefSame address) b = is_at address b
task_covers (RfmSame address) b = is_at address b

-- the command that closes the banks of the task
abbrev pub precharge_of : Task → Command
precharge_of RfmAll = PreAb
precharge_of Ecs = PreAb
precharge_of RefAll = PreAb
precharge_of (RefSame address) = PreSb address
precharge_of (RfmSame address) = PreSb address

-- the task's own command, after which it is done
abbrev pub command_of : Task → Command
command_of RfmAll = RfmAb
command_of Ecs = EcsCommand
command_of RefAll = RefAb
command_of (RefSame address) = RefSb address
command_of (RfmSame address) = RfmSb address

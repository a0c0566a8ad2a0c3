-- The fault of each command that does not fit.
use Rattle.command_words.specs.declared.command.Command.{Command}
use Rattle.command_words.specs.declared.command.Command.TheVariants.{Act, Rd, Wr}
use Rattle.bank_state.specs.declared.fault.StateFault.{StateFault}
use Rattle.bank_state.specs.declared.fault.StateFault.TheVariants.{IsOpen, IsClosed, NotAllClosed}

-- an ACT fails at an open bank, RD and WR at a closed one, any other at an open one among those that it covers
abbrev pub fault_of : Command → StateFault
fault_of (Act bank row) = IsOpen
fault_of (Rd bank column) = IsClosed
fault_of (Wr bank column) = IsClosed
fault_of _ = NotAllClosed

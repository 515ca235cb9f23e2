-- The names of tickets. Assumes nothing.
use Rattle.std.specs.Prelude.{ℕ}
use Rattle.operations.specs.declared.row.Sort.{Sort}
use Rattle.logs.specs.declared.ticket_name.TicketName.{TicketName}

-- the name of the tickets of this sort, cabinet and begin tick
abbrev pub name : Sort → ℕ → ℕ → TicketName
name sort cabinet begun = record { sort = sort; cabinet = cabinet; begun = begun }

-- Tickets of either sort. Assumes nothing.
use Rattle.std.specs.Prelude.{ℕ, Bool, ◌&&◌, nat_le}
use Rattle.operations.specs.declared.row.Sort.{Sort}
use Rattle.operations.specs.declared.row.Sort.TheVariants as sort
use Rattle.logs.specs.Steps.{ticket}
use Rattle.logs.specs.declared.ticket_name.TicketName.{TicketName}
use Rattle.replaying.specs.declared.ticket.Ticket.{Ticket}
use Rattle.replaying.specs.declared.ticket.Ticket.TheVariants.{Read, Write}

-- the ticket of this sort, cabinet and begin tick
abbrev pub ticket_of : Sort → ℕ → ℕ → Ticket
ticket_of sort.Read cabinet begun = Read (ticket cabinet begun)
ticket_of sort.Write cabinet begun = Write (ticket cabinet begun)

-- the ticket of this name
abbrev pub named : TicketName → Ticket
named name = ticket_of name.sort name.cabinet name.begun

-- the begin tick of a ticket
abbrev pub tick_of : Ticket → ℕ
tick_of (Read t) = t.begun
tick_of (Write t) = t.begun

-- some log can hand out a ticket of this name
abbrev pub issued : TicketName → Bool
issued name = nat_le name.cabinet 63 && (nat_le 1 name.begun && nat_le name.begun 1073741822)

-- How the name of a ticket is written. Assumes nothing.
use Rattle.std.specs.Prelude.{ℕ, List, ◌++◌, codes, decimal}
use Rattle.operations.specs.Words.{sort_words}
use Rattle.logs.specs.declared.ticket_name.TicketName.{TicketName}

-- as `write cabinet 3 tick 5`
abbrev pub ticket_words : TicketName → List ℕ
ticket_words t = sort_words t.sort ++ (codes " cabinet " ++ (decimal t.cabinet ++ (codes " tick " ++ decimal t.begun)))

-- A write that stands for none. Assumes nothing.
use Rattle.std.proofs.Common.{None}
use Rattle.operations.specs.declared.row.Sort.TheVariants.{Read}
use Rattle.gathering.specs.declared.write.Write.{Write}

-- what a list of writes has where it has none
abbrev pub blank : Write
blank = record { place = 0; row = record { sort = Read; bay = 0; cabinet = 0; value = tt; start = 0; finish = 0 }; last_read = None }

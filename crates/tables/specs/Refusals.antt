-- The number, place and layer of the refusals of tables and lists. Assumes nothing.
use Rattle.operations.specs.declared.refusal.Layer.{Layer}
use Rattle.operations.specs.declared.refusal.Layer.TheVariants as layer
use Rattle.operations.specs.declared.refusal.Refusal.{Refusal}
use Rattle.operations.specs.Refusals.{refusal}
use Rattle.tables.specs.declared.refusal.ListRefusal.{ListRefusal}
use Rattle.tables.specs.declared.refusal.ListRefusal.TheVariants as list
use Rattle.tables.specs.declared.refusal.TableRefusal.{TableRefusal}
use Rattle.tables.specs.declared.refusal.TableRefusal.TheVariants as table
use Rattle.words.specs.declared.refusal.WrongKind.{WrongKind}

-- 3, the word reader's own: a word of the wrong kind; the place is the word, and the layer names the file that was read
abbrev pub word_refusal : Layer → WrongKind → Refusal
word_refusal by e = refusal 3 e.word by

-- 1: longer than 512 records; 2: not of whole records, the place is the length; 3: as the word reader says;
-- 4: a pattern that is no value, and 5: a start after its finish, the place is the record
abbrev pub table_refusal : TableRefusal → Refusal
table_refusal table.TooLong = refusal 1 512 layer.Table
table_refusal (table.Ragged length) = refusal 2 length layer.Table
table_refusal (table.Words e) = word_refusal layer.WordsInTable e
table_refusal (table.NoValue place) = refusal 4 place layer.Table
table_refusal (table.StartsLate place) = refusal 5 place layer.Table

-- 1: longer than 512 words; 2: not of whole words, the place is the length; 3: as the word reader says
abbrev pub list_refusal : ListRefusal → Refusal
list_refusal list.TooLong = refusal 1 512 layer.List
list_refusal (list.Ragged length) = refusal 2 length layer.List
list_refusal (list.Words e) = word_refusal layer.WordsInList e

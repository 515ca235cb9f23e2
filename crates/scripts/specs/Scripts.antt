-- What a line adds to a script. Assumes nothing.
use Rattle.std.specs.Prelude.{◌≡◌, ℕ, List, [], ◌∷◌, ◌++◌, Some, None, Ok, Err, vec_items, Option, Result}
use Rattle.scripts.specs.Lines.{Says}
use Rattle.scripts.specs.declared.line.Line.{Line}
use Rattle.scripts.specs.declared.line.Line.TheVariants.{Open, Storage, Call}
use Rattle.scripts.specs.declared.script.Script.{Script}
use Rattle.scripts.specs.declared.unread.Unread.{Unread}

-- the script with this line more, or the same where it says nothing; only calls follow a call
abbrev pub Grown : Script → Script → Option Line → Type 0
Grown s t None = (t.first ≡ s.first) × (t.entries ≡ s.entries) × (vec_items t.calls ≡ vec_items s.calls)
Grown s t (Some (Open first)) = (vec_items s.calls ≡ []) × (t.first ≡ first) × (t.entries ≡ s.entries) × (vec_items t.calls ≡ vec_items s.calls)
Grown s t (Some (Storage entries)) = (vec_items s.calls ≡ []) × (t.first ≡ s.first) × (t.entries ≡ entries) × (vec_items t.calls ≡ vec_items s.calls)
Grown s t (Some (Call call)) = (t.first ≡ s.first) × (t.entries ≡ s.entries) × (vec_items t.calls ≡ vec_items s.calls ++ (call ∷ []))

-- a text that was read is a line, which the script has more; one that was not changes nothing
abbrev pub Reads : Script → List ℕ → Script → Result (Unit {0}) Unread → Type 0
Reads s text t (Ok _) = (line : Option Line) × Says text line × Grown s t line
Reads s text t (Err _) = Grown s t None

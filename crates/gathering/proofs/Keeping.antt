-- What gathered writes keep of the rows, one operation more. Assumes nothing.
use Rattle.std.proofs.Common.{◌≡◌, ℕ, ◌<◌, Bool, true, false, cond, leb, ◌⊎◌, List, [], ◌∷◌, ◌++◌, length, get_or, set, min, IfSome, Some, None, Option, sym, refl, ap, ◌∙◌, subst, inl, inr, arith}
use Rattle.std.proofs.lemmas.List.{length-set, get_or-set_same, get_or-set_other}
use Rattle.std.proofs.lemmas.Bool.{cases_eq}
use Rattle.operations.proofs.Checks.{each_push}
use Rattle.operations.specs.declared.row.Row.{Row}
use Rattle.operations.specs.Rows.{finished_at, without_value}
use Rattle.gathering.specs.Kept.{later_read, shortened_by, ReadOf, Kept, AllKept}
use Rattle.gathering.specs.declared.write.Write.{Write}

module _ {V : Type 0} (m : V → ℕ × ℕ) (rows : List (Row V)) where
  pub kept_none : AllKept m rows []
  kept_none rank d h = absurd (omega arith)

  -- a write more
  pub kept_push : (ws : List Write) (place : ℕ) (row : Row V) → row ≡ get_or rows place row → AllKept m rows ws → AllKept m rows (ws ++ (record { place = place; row = without_value row; last_read = None } ∷ []))
  kept_push ws place row lies h = each_push (λ _ w. Kept m rows w) ws (record { place = place; row = without_value row; last_read = None }) h (record { row = (without_value row, (row, lies, refl), refl); last = tt })

  last_of : (place : ℕ) (held : Option (Row (Unit {0}))) (read : Row (Unit {0})) → IfSome held (ReadOf m rows place) → ReadOf m rows place read → ReadOf m rows place (later_read held read)
  last_of place None read h r = r
  last_of place (Some last) read h r = go (leb read.start last.start)
    where
      go : (t : Bool) → ReadOf m rows place (cond t last read)
      go true = h
      go false = r

  -- a read more of the write of a rank
  module _ (ws : List Write) (k : ℕ) (w blank : Write) (within : k < length ws) (stands : w ≡ get_or ws k blank) (read : Row (Unit {0})) (of : ReadOf m rows w.place read) (all : AllKept m rows ws) where
    here : Kept m rows (shortened_by w read)
    here =
        let was : Kept m rows w = subst (Kept m rows) (sym stands) (all k blank within) in
        record { row = (was.row.0, was.row.1, ap (λ r. finished_at r (min read.finish w.row.finish)) was.row.2); last = last_of w.place w.last_read read was.last of }

    pub kept_set : AllKept m rows (set ws k (shortened_by w read))
    kept_set i d h = go (cases_eq i k)
      where
        lies : i < length ws
        lies = omega (arith, length-set ws k (shortened_by w read))

        go : ((i ≡ k) ⊎ (i ≡ k → ⊥)) → Kept m rows (get_or (set ws k (shortened_by w read)) i d)
        go (inl s) = subst (Kept m rows) (sym (ap (λ j. get_or (set ws k (shortened_by w read)) j d) s ∙ get_or-set_same ws k (shortened_by w read) d within)) here
        go (inr ne) = subst (Kept m rows) (sym (get_or-set_other ws k i (shortened_by w read) d ne)) (all i d lies)

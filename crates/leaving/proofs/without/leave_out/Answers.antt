use Rattle.std.proofs.Common.{ℕ, List, length, sym, ap, subst, arith}
use Rattle.leaving.specs.Leaving.{entries, MaskOf, BaysUpTo}
use Rattle.leaving.proofs.Leaves.{none_listed, mask_keeps, mask_keeps_all}
use Rattle.leaving.proofs.without.leave_out.Goals as goal
use Rattle.leaving.proofs.without.leave_out.Goals.{in-Some+in_ok-mask-in-Some, in-None}

pub returns : goal.returns
returns g c =
    let rows = g.S.Source.operations c.args.below.now in
    let valid = g.S.Source.valid c.args.below.now in
    let bays = entries c.args.bays in let mask = c.match-bays.mask in
    let masked : BaysUpTo bays (length bays) × MaskOf bays mask = elim c.match-bays.branch [
      | in-Some+in_ok-mask-in-Some w ↦
          let listed = sym (ap entries w.in-Some.is) in let made = w.in_ok-mask-in-Some.ensures in
          (subst (λ (xs : List ℕ). BaysUpTo xs (length xs)) listed made.0, subst (MaskOf bays) (sym w.mask-is) (subst (λ (xs : List ℕ). MaskOf xs w.in_ok-mask-in-Some.mask) listed made.1))
      | in-None w ↦
          let none = sym (ap entries w.in-None.is) in
          (subst (λ (xs : List ℕ). BaysUpTo xs (length xs)) none (λ entry lt. absurd (omega arith)), subst (MaskOf bays) (sym w.mask-is) (subst (λ (xs : List ℕ). MaskOf xs 0) none none_listed))
    ] in
    record { unlisted = (masked.0, masked.1, mask_keeps bays mask masked.1 rows valid); absent_or_empty = mask_keeps_all bays mask masked.1 rows valid }

use Rattle.std.proofs.Common.{◌≡◌, true, false, rules, tests, arith, zero-le}
use Rattle.std.proofs.lemmas.Iterator.{first_from_Range}
use Rattle.reports.proofs.Texts.{weaker}
use Rattle.masks.specs.Masks.{has_bit}
use Rattle.reports.proofs.account.BaysLeftOut.lowest.Goals as goal

pub returns : goal.returns
returns g c =
    let mask = c.args.self.now.kept.mask in
    weaker c.find.result
    (λ none bay lt. none bay zero-le (omega (arith, c.from.ensures, lt)))
    (λ bay found. (omega (arith, c.from.ensures, found.1), found.2))
    (first_from_Range _ _ _ c.find.result (λ bay. has_bit mask bay ≡ true) (λ bay. has_bit mask bay ≡ false) c.find.ensures.ran (λ x q k. search (rules, tests)) (λ x q k. search (rules, tests)))

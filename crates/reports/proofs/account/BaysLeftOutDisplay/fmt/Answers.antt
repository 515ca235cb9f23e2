use Rattle.std.proofs.Common.{rules, ◌≡◌, cond, [], ◌++◌, codes, decimal, sym, ap, ◌∙◌, append-nil, arith}
use Rattle.std.proofs.Output.{has_written_append, has_written_of_eq}
use Rattle.masks.specs.Masks.{has_bit}
use Rattle.reports.specs.Accounts.{bays_words}
use Rattle.reports.proofs.Texts.{bays_none, bays_more, none_named, some_named}
use Rattle.reports.proofs.account.BaysLeftOutDisplay.fmt.Goals as goal
use Rattle.reports.proofs.account.BaysLeftOutDisplay.fmt.Goals.{then-leaves_out+in_ok-write, else-leaves_out}

pub returns-in_default-clause-writes : goal.returns-in_default-clause-writes
returns-in_default-clause-writes g c plain ok =
    has_written_of_eq _ _ _ _ _ (sym (none_named (has_bit c.args.self.now.kept.mask) 64 c.in_default.ensures)) (search rules)

pub loop-bay-init : goal.loop-bay-init
loop-bay-init g c plain = has_written_of_eq _ _ _ _ _ (sym (bays_none (has_bit c.args.self.now.kept.mask))) (search rules)

pub loop-bay-preserved : goal.loop-bay-preserved
loop-bay-preserved g c plain =
    let left_out = has_bit c.args.self.now.kept.mask in let n = c.loop-bay.bay-counter in
    let more = bays_more left_out n in
    elim c.if-leaves_out.branch [
      | then-leaves_out+in_ok-write w ↦
          let test = sym c.leaves_out.ensures ∙ w.if-leaves_out.true in
          let here = more ∙ ap (λ b. bays_words left_out n ++ cond b (codes " " ++ decimal n) []) test in
          rw w.f-is (has_written_of_eq _ _ _ _ _ (sym here) (has_written_append _ _ _ _ _ _ (c.loop-bay.invariant plain) (search rules)))
      | else-leaves_out w ↦
          let test = sym c.leaves_out.ensures ∙ w.if-leaves_out.false in
          let here = more ∙ ap (λ b. bays_words left_out n ++ cond b (codes " " ++ decimal n) []) test ∙ append-nil (bays_words left_out n) in
          rw w.f-is (has_written_of_eq _ _ _ _ _ (sym here) (c.loop-bay.invariant plain))
    ]

pub returns-clause-writes : goal.returns-clause-writes
returns-clause-writes g c plain ok =
    let all : c.loop-bay.bay-counter ≡ 64 = omega arith in
    has_written_of_eq _ _ _ _ _ (ap (bays_words (has_bit c.args.self.now.kept.mask)) all ∙ sym (some_named (has_bit c.args.self.now.kept.mask) 64 c.in-Some.field-0 c.in-Some.ensures.0 c.in-Some.ensures.1)) (c.loop-bay.invariant plain)

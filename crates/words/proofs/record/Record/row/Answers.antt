use Rattle.std.proofs.Common.{◌≡◌, ◌/◌, sym, ap, ◌∙◌}
use lib.Bits.{and_mask}
use Rattle.words.specs.Rows.{bytes_of, sort_of}
use Rattle.words.proofs.record.Record.row.Goals as goal
use Rattle.words.proofs.record.Record.row.Goals.{in-Read, in-Write}

pub returns : goal.returns
returns c =
    let sort : c.match-self.sort.0 ≡ sort_of c.args.self.now = elim c.match-self.branch [
      | in-Read w ↦ ap (λ p. p.0) w.sort-is ∙ sym (ap sort_of w.in-Read.is)
      | in-Write w ↦ ap (λ p. p.0) w.sort-is ∙ sym (ap sort_of w.in-Write.is)
    ] in
    let part : c.match-self.sort.1.now ≡ bytes_of c.args.self.now = elim c.match-self.branch [
      | in-Read w ↦ ap (λ p. p.1.now) w.sort-is ∙ sym (ap bytes_of w.in-Read.is)
      | in-Write w ↦ ap (λ p. p.1.now) w.sort-is ∙ sym (ap bytes_of w.in-Write.is)
    ] in
    let bay = and_mask (c.word_at-head.result / 16777216) 6 in
    let cabinet = and_mask (c.word_at-head.result / 262144) 6 in
    let pattern = and_mask c.word_at-head.result 18 in
    let start = and_mask c.word_at.result 30 in
    let finish = and_mask c.word_at-2.result 30 in
    cc

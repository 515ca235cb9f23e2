use Rattle.std.proofs.Common.{sym, ◌∙◌, subst}
use Rattle.std.proofs.lemmas.List.{length-map}
use Rattle.lists.specs.Lists.{listed}
use Rattle.gathering.specs.Spans.{span}
use Rattle.searching.specs.Outcome.{Searched}
use Rattle.trying.proofs.judge.search.Goals as goal

pub returns : goal.returns
returns c = record {
  edges = listed c.edges_between-found.result;
  all = c.edges_between-found.ensures.all ∙ sym (length-map (listed c.args.bay.now.writes) span);
  at_ranks = c.edges_between-found.ensures.edges;
  searched = subst (λ edges. Searched edges c.args.limit c.search.result) c.as_slice.ensures.value c.search.ensures;
}

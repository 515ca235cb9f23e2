-- What the search says. Assumes nothing.
use Rattle.std.specs.Prelude.{ℕ, ◌<◌, ◌≤◌, List, map, length, take, Result, MatchResult}
use Rattle.orders.specs.RunUps.{Graph, Tried, NoneFor, NoneBelow, TrialsUpTo}
use Rattle.searching.specs.Masks.{mask_graph}
use Rattle.searching.specs.declared.edges.EdgeMasks.{EdgeMasks}
use Rattle.searching.specs.declared.search.FirstOrder.{FirstOrder}
use Rattle.searching.specs.declared.search.NotFound.{NotFound}
use Rattle.searching.specs.declared.search.NotFound.TheVariants.{OverLimit, NoOrder}

-- the first k with a value order, the first of these, and the trials of all tried k, which the limit allows
abbrev pub Found : (g : Graph) (n limit : ℕ) → FirstOrder → Type 0
Found g n limit f = Tried g f.age f.trials (take n f.writes) × (f.trials ≤ limit)

-- some k is tried, and with it the trials pass the limit; or no k has a value order
abbrev pub Missed : (g : Graph) (n limit : ℕ) → NotFound → Type 0
Missed g n limit OverLimit = (k : ℕ) × (c : ℕ) × (1 ≤ k) × (k ≤ n) × NoneBelow g k × TrialsUpTo g k c × (limit < c)
Missed g n limit NoOrder = (k : ℕ) → 1 ≤ k → NoneFor g k

-- the edges into the writes, and those from them
abbrev pub befores : List EdgeMasks → List ℕ
befores masks = map (λ m. m.before) masks

abbrev pub behinds : List EdgeMasks → List ℕ
behinds masks = map (λ m. m.behind) masks

-- what the edges at each write are found to have
abbrev pub Searched : List EdgeMasks → (limit : ℕ) → Result FirstOrder NotFound → Type 0
Searched masks limit r =
    let n = length masks in
    let g = mask_graph n (befores masks) (behinds masks) in
    MatchResult r (Found g n limit) (Missed g n limit)

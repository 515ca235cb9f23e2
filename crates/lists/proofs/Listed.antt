-- A list in places of its own is no longer than they are many. Assumes nothing.
use Rattle.std.proofs.Common.{◌≡◌, ℕ, ◌≤◌, List, length, Some, None, Option, refl, arith}
use Rattle.std.proofs.lemmas.List.{length-take-le}
use Rattle.lists.specs.Lists.{first, listed}
use Rattle.lists.specs.declared.array.ArrayList.{ArrayList}

pub listed_few : {T : Type 0} {n : ℕ} → (list : ArrayList T n) → length (listed list) ≤ n
listed_few {T} {n} list = go list.items refl
  where
    go : (items : Option (List T)) → list.items ≡ items → length (first list.len items) ≤ n
    go None e = omega arith
    go (Some places) e = let full : list.len ≤ length places = omega (arith, list.filled places e, list.few) in omega (arith, length-take-le list.len places full, list.few)

-- What cabinets and rows hold after one of them is written. Assumes nothing.
use Rattle.std.proofs.Common.{◌≡◌, ℕ, zero, suc, ◌+◌, ◌-◌, ◌<◌, ◌≤◌, true, false, ◌≢◌, ◌⊎◌, List, [], ◌∷◌, ◌++◌, length, get_or, take, set, replicate, sym, refl, ap, ◌∙◌, subst, inl, inr, ⊎_elim, arith, length-set, length-take, get_or-set_other, get_or-take, get_or-set_same}
use lib.ListN.{get_or-eq_default}
use Rattle.std.proofs.lemmas.List.{take_more_set}
use Rattle.std.proofs.lemmas.Bool.{false≢true, cases_lt}
use Rattle.std.proofs.lemmas.Bool.Decides.{nat_tests}
use Rattle.operations.specs.Rows.{Valid, AllValid}
use Rattle.operations.specs.declared.row.Row.{Row}
use Rattle.operations.specs.declared.row.Sort.{Sort}
use Rattle.operations.specs.declared.row.Sort.TheVariants.{Read, Write}
use Rattle.logs.specs.declared.cabinet.Cabinet.{Cabinet}
use Rattle.logs.specs.declared.cabinet.Cabinet.TheVariants.{Idle, Reading, Writing}
use Rattle.logs.specs.Cabinets.{occupied, holds, bay_of, begun_of, waits, busy, AllHeld, Found, ValidUpTo}
use Rattle.logs.specs.States.{state}

-- one entry more or less that waits
busy_set : (cs : List Cabinet) (i : ℕ) (v : Cabinet) → i < length cs → busy (set cs i v) + waits (get_or cs i Idle) ≡ busy cs + waits v
busy_set [] i v h = absurd (omega arith)
busy_set (c ∷ cs) zero v h = omega arith
busy_set (c ∷ cs) (suc i) v h = let h' : i < length cs = omega arith in omega (arith, busy_set cs i v h')

waits_occupied : (s : Sort) (b t : ℕ) → waits (occupied s b t) ≡ 1
waits_occupied Read b t = refl
waits_occupied Write b t = refl

pub bay_occupied : (s : Sort) (b t : ℕ) → bay_of (occupied s b t) ≡ b
bay_occupied Read b t = refl
bay_occupied Write b t = refl

pub begun_occupied : (s : Sort) (b t : ℕ) → begun_of (occupied s b t) ≡ t
begun_occupied Read b t = refl
begun_occupied Write b t = refl

pub begun_count : (cs : List Cabinet) (i : ℕ) (v : Cabinet) (s : Sort) (b t w : ℕ) → i < length cs → get_or cs i Idle ≡ Idle → v ≡ occupied s b t → w ≡ busy cs → w + 1 ≡ busy (set cs i v)
begun_count cs i v s b t w h e o k = omega (arith, busy_set cs i v h, ap waits e, ap waits o ∙ waits_occupied s b t)

pub freed_count : (cs : List Cabinet) (i w : ℕ) → i < length cs → waits (get_or cs i Idle) ≡ 1 → w ≡ busy cs → w - 1 ≡ busy (set cs i Idle)
freed_count cs i w h e k = omega (arith, busy_set cs i Idle h)

waits_busy : (cs : List Cabinet) (i : ℕ) → waits (get_or cs i Idle) ≤ busy cs
waits_busy [] i = omega arith
waits_busy (c ∷ cs) zero = omega arith
waits_busy (c ∷ cs) (suc i) = omega (arith, waits_busy cs i)

-- a written entry is the new one, or as it was
set_cases : (cs : List Cabinet) (i : ℕ) (v : Cabinet) (k : ℕ) → (get_or (set cs i v) k Idle ≡ v) ⊎ (get_or (set cs i v) k Idle ≡ get_or cs k Idle)
set_cases [] i v k = inr refl
set_cases (c ∷ cs) zero v zero = inl refl
set_cases (c ∷ cs) zero v (suc k) = inr refl
set_cases (c ∷ cs) (suc i) v zero = inr refl
set_cases (c ∷ cs) (suc i) v (suc k) = set_cases cs i v k

pub held_set : (cs : List Cabinet) (i : ℕ) (v : Cabinet) (n m : ℕ) → AllHeld n cs → bay_of v ≤ 63 → begun_of v ≤ m → n ≤ m → AllHeld m (set cs i v)
held_set cs i v n m h b t l k =
    ⊎_elim (λ e. (omega (arith, ap bay_of e), omega (arith, ap begun_of e)))
    (λ e. (omega (arith, ap bay_of e, (h k).0), omega (arith, ap begun_of e, (h k).1)))
    (set_cases cs i v k)

pub idle_replicate : (n k : ℕ) → get_or (replicate n Idle) k Idle ≡ Idle
idle_replicate zero k = refl
idle_replicate (suc n) zero = refl
idle_replicate (suc n) (suc k) = idle_replicate n k

pub fresh_held : (n m : ℕ) → AllHeld m (replicate n Idle)
fresh_held n m k = (omega (arith, ap bay_of (idle_replicate n k)), omega (arith, ap begun_of (idle_replicate n k)))

-- no cabinet past the last one holds anything
pub past_holds : (cs : List Cabinet) (i : ℕ) (k : Sort) (t : ℕ) → length cs ≤ i → holds k t (get_or cs i Idle) ≡ false
past_holds cs i k t h = rw (get_or-eq_default cs Idle h)

-- what a cabinet holds
pub held_known : (x : Cabinet) (k : Sort) (t : ℕ) → holds k t x ≡ true → x ≡ occupied k (bay_of x) t
held_known Idle k t e = absurd (false≢true e)
held_known (Reading a s) Read t e = grind (arith, nat_tests)
held_known (Reading a s) Write t e = absurd (false≢true e)
held_known (Writing a s) Read t e = absurd (false≢true e)
held_known (Writing a s) Write t e = grind (arith, nat_tests)

pub held_found : (cs : List Cabinet) (c : ℕ) (k : Sort) (t b n w : ℕ) → AllHeld n cs → w ≡ busy cs → holds k t (get_or cs c Idle) ≡ true → b ≡ bay_of (get_or cs c Idle) → c ≤ 63 → Found cs n w k c t b
held_found cs c k t b n w h counted e is known =
    let x = get_or cs c Idle in
    let f = held_known x k t e in
    let at : begun_of x ≡ t = ap begun_of f ∙ begun_occupied k (bay_of x) t in
    let one : waits x ≡ 1 = ap waits f ∙ waits_occupied k (bay_of x) t in
    record { held = e; there = is; known = known; low = omega (arith, (h c).0); past = omega (arith, (h c).1); one = one; some = omega (arith, waits_busy cs c) }

pub fresh_rows : {V : Type 0} (rows : List (Row V)) (n : ℕ) → n ≡ 0 → ValidUpTo rows n
fresh_rows rows n e k d h = absurd (omega arith)

rows_push : {V : Type 0} (rows : List (Row V)) (n : ℕ) (r : Row V) → n < length rows → ValidUpTo rows n → Valid r → ValidUpTo (set rows n r) (n + 1)
rows_push rows n r l h p k d b =
    ⊎_elim
    (λ lt. let ne : k ≢ n = omega arith in subst Valid (sym (get_or-set_other rows n k r d ne)) (h k d lt))
    (λ le. let e : n ≡ k = omega arith in subst (λ j. Valid (get_or (set rows n r) j d)) e (subst Valid (sym (get_or-set_same rows n r d l)) p))
    (cases_lt k n)

pub rows_pushed : {V : Type 0} (rows rows' : List (Row V)) (n n' : ℕ) (r : Row V) → n' ≡ n + 1 → rows' ≡ set rows n r → n < length rows → ValidUpTo rows n → Valid r → ValidUpTo rows' n'
rows_pushed rows rows' n n' r en er l h p =
    subst (λ m. ValidUpTo rows' m) (sym en) (subst (λ xs. ValidUpTo xs (n + 1)) (sym er) (rows_push rows n r l h p))

pub pushed_rows : {X : Type 0} (rows rows' : List X) (n n' : ℕ) (r : X) → n' ≡ n + 1 → rows' ≡ set rows n r → n < length rows → (take n' rows' ≡ take n rows ++ (r ∷ [])) × (length rows' ≡ length rows)
pushed_rows rows rows' n n' r en er l = (rw (en, er) (take_more_set rows n r l), ap length er ∙ length-set rows n r)

pub state_alike : {V : Type 0} {cs cs' : List Cabinet} {n n' w w' r r' : ℕ} {e e' : List (Row V)} → cs ≡ cs' → n ≡ n' → w ≡ w' → r ≡ r' → e ≡ e' → state cs n w r e ≡ state cs' n' w' r' e'
state_alike c n w r e = λ i. state (c i) (n i) (w i) (r i) (e i)

-- the ended rows are operations'
pub rows_taken : {V : Type 0} (rows ended : List (Row V)) (n : ℕ) → ValidUpTo rows n → ended ≡ take n rows → AllValid ended
rows_taken rows ended n h e k d l =
    let b : k < n = omega (arith, ap length e, length-take n rows) in
    subst Valid (sym (ap (λ xs. get_or xs k d) e ∙ get_or-take n rows k d b)) (h k d b)

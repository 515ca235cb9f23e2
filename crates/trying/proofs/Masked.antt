-- Masks with one bit more. Assumes nothing.
use Rattle.std.proofs.Common.{◌≡◌, ℕ, ◌+◌, ◌%◌, ◌^◌, ◌<◌, ◌≤◌, Bool, true, false, ◌&&◌, ◌||◌, eqb, ltb, ◌⊎◌, List, [], ◌∷◌, ◌++◌, length, get_or, None, sym, refl, ap, ◌∙◌, subst, inl, inr, arith}
use native.Mathlib.Nat.{zero-div}
use Rattle.std.proofs.lemmas.List.{get_or_default, get_or-map, length-map}
use Rattle.std.proofs.lemmas.Bool.{cases_order, eq-eqb, ne_eqb, lt-ltb, le-ltb}
use Rattle.operations.proofs.Checks.{each_push}
use Rattle.searching.specs.declared.edges.EdgeMasks.{EdgeMasks}
use Rattle.masks.specs.Masks.{has_bit, Added}
use Rattle.gathering.specs.Spans.{Span, span, spans, started}
use Rattle.gathering.specs.declared.write.Write.{Write}
use Rattle.gathering.specs.Writes.{places}
use Rattle.trying.specs.Edges.{Bits, finishes, last_reads, is_into, is_from, EdgesAt, EdgesOf}

-- the finish and the last read of what stands at a rank
module _ (ws : List Span) (i : ℕ) (d : Span) (h : i < length ws) where
  pub finish_at : get_or (finishes ws) i 0 ≡ (get_or ws i d).finish
  finish_at = get_or-map (λ w. w.finish) ws i d 0 h

  pub last_at : get_or (last_reads ws) i None ≡ (get_or ws i d).last_read
  last_at = get_or-map (λ w. w.last_read) ws i d None h

-- the same of a gathered write
module _ (ws : List Write) (i : ℕ) (d : Write) (h : i < length ws) where
  within : i < length (spans ws)
  within = omega (arith, h, length-map ws span)

  pub write_finish : get_or (finishes (spans ws)) i 0 ≡ (get_or ws i d).row.finish
  write_finish = finish_at (spans ws) i (span d) within ∙ ap (λ s. s.finish) (get_or-map span ws i d (span d) h)

  pub write_place : get_or (places (spans ws)) i 0 ≡ (get_or ws i d).place
  write_place = get_or-map (λ w. w.place) (spans ws) i (span d) 0 within ∙ ap (λ s. s.place) (get_or-map span ws i d (span d) h)

  pub write_last : get_or (last_reads (spans ws)) i None ≡ started (get_or ws i d).last_read
  write_last = last_at (spans ws) i (span d) within ∙ ap (λ s. s.last_read) (get_or-map span ws i d (span d) h)

-- a list with a number more
pub pushed_place : {new : List ℕ} {p : ℕ} (old : List ℕ) (q : ℕ) → new ≡ old ++ (p ∷ []) → p ≡ q → new ≡ old ++ (q ∷ [])
pushed_place old q pushed same = pushed ∙ ap (λ n. old ++ (n ∷ [])) same

-- 0 has no bit
pub bits_none : (test : ℕ → Bool) → Bits 0 test 0
bits_none test i = ap (λ n. eqb (n % 2) 1) (zero-div (2 ^ i)) ∙ ap (λ t. t && test i) (sym (le-ltb i 0 (omega arith)))

module _ (n : ℕ) (test : ℕ → Bool) (mask : ℕ) (bits : Bits n test mask) where
  pub bits_at : (i : ℕ) → i < n → has_bit mask i ≡ test i
  bits_at i h = bits i ∙ ap (λ t. t && test i) (lt-ltb i n h)

  pub bits_yes : (new : ℕ) → test n ≡ true → n ≤ 63 → Added mask n new → Bits (n + 1) test new
  bits_yes new e small added i = added.below small i ∙ go (cases_order i n)
    where
      go : ((i ≡ n) ⊎ ((i < n) ⊎ (n < i))) → (has_bit mask i || eqb n i) ≡ (ltb i (n + 1) && test i)
      go (inl s) = rw (bits i, eq-eqb n i (sym s), le-ltb i n (omega arith), lt-ltb i (n + 1) (omega arith)) (sym (ap test s ∙ e))
      go (inr (inl lt)) = rw (bits i, ne_eqb n i (λ s. omega arith), lt-ltb i n lt, lt-ltb i (n + 1) (omega arith)) (or_false (test i))
        where
          or_false : (t : Bool) → (t || false) ≡ t
          or_false true = refl
          or_false false = refl
      go (inr (inr gt)) = rw (bits i, ne_eqb n i (λ s. omega arith), le-ltb i n (omega arith), le-ltb i (n + 1) (omega arith))

  pub bits_no : test n ≡ false → Bits (n + 1) test mask
  bits_no e i = bits i ∙ go (cases_order i n)
    where
      go : ((i ≡ n) ⊎ ((i < n) ⊎ (n < i))) → (ltb i n && test i) ≡ (ltb i (n + 1) && test i)
      go (inl s) = rw (le-ltb i n (omega arith), lt-ltb i (n + 1) (omega arith)) (sym (ap test s ∙ e))
      go (inr (inl lt)) = rw (lt-ltb i n lt, lt-ltb i (n + 1) (omega arith))
      go (inr (inr gt)) = rw (le-ltb i n (omega arith), le-ltb i (n + 1) (omega arith))

-- the edges of one write more
pub edges_more : (ws : List Span) (edges : List EdgeMasks) (n : ℕ) (d : Span) (x : EdgeMasks) → EdgesOf ws edges → length edges ≡ n → n < length ws → Bits (length ws) (is_into ws (get_or ws n d)) x.before → Bits (length ws) (is_from ws n (get_or ws n d)) x.behind → EdgesOf ws (edges ++ (x ∷ []))
edges_more ws edges n d x so_far e lies into from = each_push (EdgesAt ws) edges x so_far (subst (λ rank. EdgesAt ws rank x) (sym e) (λ w s.
    let same : get_or ws n d ≡ w = get_or_default ws n d w lies ∙ sym s in
    (subst (λ y. Bits (length ws) (is_into ws y) x.before) same into, subst (λ y. Bits (length ws) (is_from ws n y) x.behind) same from)))

-- the same of a gathered write
pub edges_more_write : (ws : List Write) (edges : List EdgeMasks) (n : ℕ) (d : Write) (x : EdgeMasks) → EdgesOf (spans ws) edges → length edges ≡ n → n < length ws → Bits (length ws) (is_into (spans ws) (span (get_or ws n d))) x.before → Bits (length ws) (is_from (spans ws) n (span (get_or ws n d))) x.behind → EdgesOf (spans ws) (edges ++ (x ∷ []))
edges_more_write ws edges n d x so_far e lies into from =
    let long = length-map ws span in
    let here = sym (get_or-map span ws n d (span d) lies) in
    edges_more (spans ws) edges n (span d) x so_far e (omega (arith, long, lies))
    (subst (λ y. Bits (length (spans ws)) (is_into (spans ws) y) x.before) here (subst (λ k. Bits k (is_into (spans ws) (span (get_or ws n d))) x.before) (sym long) into))
    (subst (λ y. Bits (length (spans ws)) (is_from (spans ws) n y) x.behind) here (subst (λ k. Bits k (is_from (spans ws) n (span (get_or ws n d))) x.behind) (sym long) from))

-- One place more, and one line more. Assumes nothing.
use Rattle.std.proofs.Common.{◌≡◌, ℕ, ◌+◌, ◌<◌, ◌≤◌, List, [], ◌∷◌, ◌++◌, length, get_or, take, drop, codes, decimal, sym, ap, ◌∙◌, ap₂, append_assoc, append-nil, arith}
use Rattle.std.proofs.lemmas.List.{take_more, take_all, at_drop_more, take-append-le, drop-append-le, length-drop}
use Rattle.surveying.specs.declared.finding.Finding.{Finding}
use Rattle.summaries.specs.Summaries.{places_words, bay_words, all_writes, findings_words}

push_places : (ps : List ℕ) (p : ℕ) → places_words (ps ++ (p ∷ [])) ≡ places_words ps ++ (codes " " ++ decimal p)
push_places [] p = append-nil (codes " " ++ decimal p)
push_places (q ∷ ps) p = ap (λ l. (codes " " ++ decimal q) ++ l) (push_places ps p) ∙ sym (append_assoc (codes " " ++ decimal q) (places_words ps) (codes " " ++ decimal p))

-- the words of one place more
pub places_more : (ps : List ℕ) (i : ℕ) → i < length ps → places_words (take (i + 1) ps) ≡ places_words (take i ps) ++ (codes " " ++ decimal (get_or ps i 0))
places_more ps i h = ap places_words (take_more ps i 0 h) ∙ push_places (take i ps) (get_or ps i 0)

-- the line of the next finding, and what is left behind it
pub next_line : (fs : List Finding) (i : ℕ) (d : Finding) (text line order later rest whole : List ℕ) → i < length fs → text ++ findings_words (drop i fs) rest ≡ whole → line ≡ bay_words (get_or fs i d).bay (get_or fs i d).age order → order ≡ take (get_or fs i d).writes rest → later ≡ drop (get_or fs i d).writes rest → (text ++ line) ++ findings_words (drop (i + 1) fs) later ≡ whole
next_line fs i d text line order later rest whole h so_far e f g =
    append_assoc text line (findings_words (drop (i + 1) fs) later)
    ∙ ap₂ (λ (a b : List ℕ). text ++ (a ++ findings_words (drop (i + 1) fs) b)) (e ∙ ap (bay_words (get_or fs i d).bay (get_or fs i d).age) f) g
    ∙ ap (λ l. text ++ l) (sym (at_drop_more (λ l. findings_words l rest) fs i d h)) ∙ so_far

-- the lines of one finding more, whose order stands behind the others
pub push_finding : (fs : List Finding) (orders : List ℕ) (f : Finding) (order : List ℕ) → all_writes fs ≡ length orders → f.writes ≡ length order → findings_words (fs ++ (f ∷ [])) (orders ++ order) ≡ findings_words fs orders ++ bay_words f.bay f.age order
push_finding [] [] f order e h = ap (λ l. bay_words f.bay f.age l ++ []) (take_all f.writes order (omega arith)) ∙ append-nil (bay_words f.bay f.age order)
push_finding [] (o ∷ os) f order e h = absurd (omega arith)
push_finding (g ∷ fs) orders f order e h =
    let within : g.writes ≤ length orders = omega arith in
    let rest : all_writes fs ≡ length (drop g.writes orders) = omega (arith, length-drop g.writes orders) in
    ap₂ (λ (a b : List ℕ). bay_words g.bay g.age a ++ findings_words (fs ++ (f ∷ [])) b) (take-append-le g.writes orders order within) (drop-append-le g.writes orders order within)
    ∙ ap (λ l. bay_words g.bay g.age (take g.writes orders) ++ l) (push_finding fs (drop g.writes orders) f order rest h)
    ∙ sym (append_assoc (bay_words g.bay g.age (take g.writes orders)) (findings_words fs (drop g.writes orders)) (bay_words f.bay f.age order))

-- and one more write count
pub push_writes : (fs : List Finding) (f : Finding) → all_writes (fs ++ (f ∷ [])) ≡ all_writes fs + f.writes
push_writes [] f = omega arith
push_writes (g ∷ fs) f = omega (arith, push_writes fs f)

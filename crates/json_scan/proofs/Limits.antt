-- A limit that cannot be reached makes no difference to the machine.
use Rattle.std.proofs.Common.{◌≡◌, ℕ, ◌+◌, ◌<◌, ◌≤◌, Bool, true, false, cond, eqb, ltb, List, [], ◌∷◌, length, drop, Option, Some, None}
use Rattle.std.proofs.Common.{refl, sym, ap, ◌∙◌, arith, inl, inr}
use Rattle.std.proofs.lemmas.Bool.{cond-true, lt-ltb, cases_lt}
use Rattle.json_scan.specs.declared.node.Kind.TheVariants as kind
use Rattle.json_scan.specs.declared.node.Holder.{Holder}
use Rattle.json_scan.specs.declared.node.Holder.TheVariants as holder
use Rattle.json_scan.specs.declared.node.Open.{Open}
use Rattle.json_scan.specs.declared.node.Node.{Node}
use Rattle.json_scan.specs.declared.tokens.NumberPart.{NumberPart}
use Rattle.json_scan.specs.declared.walk.Expect.{Expect}
use Rattle.json_scan.specs.declared.walk.Expect.TheVariants as expect
use Rattle.json_scan.specs.Bytes.{is_white}
use Rattle.json_scan.specs.Machine.{Next, Expecting, InNumber, InText, InWord, State, state, with_leaf, number_step, may_end, open_step}
use Rattle.json_scan.specs.Machine.{close_step, value_step, token_step, expecting_step, next_step, step, run, Outcome, Whole, Broken, go_on}
use Rattle.json_scan.specs.Machine.{next_end, after_end}
use Rattle.json_scan.specs.Machine as machine
use Rattle.json_scan.proofs.Runs.{run-end}
use Rattle.json_scan.proofs.Leaves.{run-cons}
use Rattle.json_scan.proofs.Viable.{step-keeps, same_place, end-broken}

-- ---- one step

open-same : (limit more : ℕ) (h : Holder) (opened : List Open) (nodes : List Node) (p : ℕ) → length opened < limit → length opened < more
    → open_step limit h opened nodes p ≡ open_step more h opened nodes p
unfolding open_step
open-same limit more h opened nodes p lt lt2 = cond-true (ltb (length opened) limit) _ _ (lt-ltb _ _ lt)
    ∙ sym (cond-true (ltb (length opened) more) _ _ (lt-ltb _ _ lt2))

value-same : (limit more : ℕ) (opened : List Open) (nodes : List Node) (p b : ℕ) → length opened < limit → length opened < more
    → value_step limit opened nodes p b ≡ value_step more opened nodes p b
unfolding value_step
value-same limit more opened nodes p b lt lt2 =
    rw (open-same limit more holder.Object opened nodes p lt lt2, open-same limit more holder.List opened nodes p lt lt2) refl

token-same : (limit more : ℕ) (e : Expect) (opened : List Open) (nodes : List Node) (p b : ℕ) → length opened < limit → length opened < more
    → token_step limit e opened nodes p b ≡ token_step more e opened nodes p b
unfolding token_step
token-same limit more expect.Value opened nodes p b lt lt2 = value-same limit more opened nodes p b lt lt2
token-same limit more expect.FirstItem opened nodes p b lt lt2 =
    ap (λ (x : Option State). cond (eqb b 93) (close_step opened nodes p) x) (value-same limit more opened nodes p b lt lt2)
token-same limit more expect.FirstName opened nodes p b lt lt2 = refl
token-same limit more expect.Name opened nodes p b lt lt2 = refl
token-same limit more expect.Colon opened nodes p b lt lt2 = refl
token-same limit more expect.After opened nodes p b lt lt2 = refl

expecting-same : (limit more : ℕ) (e : Expect) (opened : List Open) (nodes : List Node) (p b : ℕ) → length opened < limit
    → length opened < more → expecting_step limit e opened nodes p b ≡ expecting_step more e opened nodes p b
unfolding expecting_step
expecting-same limit more e opened nodes p b lt lt2 =
    ap (λ (x : Option State). cond (is_white b) (Some (state (Expecting e) opened nodes (p + 1))) x)
    (token-same limit more e opened nodes p b lt lt2)

number-same : (limit more : ℕ) (o : Option NumberPart) (here : NumberPart) (start : ℕ) (opened : List Open) (nodes : List Node) (p b : ℕ)
    → length opened < limit → length opened < more
    → machine.number_then limit o here start opened nodes p b ≡ machine.number_then more o here start opened nodes p b
unfolding machine.number_then
number-same limit more (Some part) here start opened nodes p b lt lt2 = refl
number-same limit more None here start opened nodes p b lt lt2 =
    ap (λ (x : Option State). cond (may_end here) x None)
    (expecting-same limit more expect.After opened (with_leaf kind.Number start p nodes) p b lt lt2)

next-same : (limit more : ℕ) (next : Next) (opened : List Open) (nodes : List Node) (p b : ℕ) → length opened < limit → length opened < more
    → next_step limit next opened nodes p b ≡ next_step more next opened nodes p b
unfolding next_step
next-same limit more (Expecting e) opened nodes p b lt lt2 = expecting-same limit more e opened nodes p b lt lt2
next-same limit more (InWord k word start) opened nodes p b lt lt2 = refl
next-same limit more (InNumber here start) opened nodes p b lt lt2 =
    number-same limit more (number_step here b) here start opened nodes p b lt lt2
next-same limit more (InText here e start) opened nodes p b lt lt2 = refl

step-same : (limit more : ℕ) (s : State) (b : ℕ) → length s.opened < limit → length s.opened < more → step limit s b ≡ step more s b
unfolding step
step-same limit more s b lt lt2 = next-same limit more s.next s.opened s.nodes s.place b lt lt2

-- ---- all steps

pub run-same_limits : (limit more : ℕ) (rest : List ℕ) (s : State) → length s.opened + length rest ≤ limit
    → length s.opened + length rest ≤ more → run limit s rest ≡ run more s rest
unfolding run go_on
run-same_limits limit more [] s le le2 = refl
run-same_limits limit more (b ∷ bs) s le le2 = go (λ t fits fits2. run-same_limits limit more bs t fits fits2) (step limit s b) refl
  where
    same : step limit s b ≡ step more s b
    same = step-same limit more s b (omega arith) (omega arith)

    go : ((t : State) → length t.opened + length bs ≤ limit → length t.opened + length bs ≤ more → run limit t bs ≡ run more t bs)
        → (o : Option State) → step limit s b ≡ o → run limit s (b ∷ bs) ≡ run more s (b ∷ bs)
    go rest None none = ap (go_on (Broken s.place) (λ t. run limit t bs)) none
        ∙ sym (ap (go_on (Broken s.place) (λ t. run more t bs)) (sym same ∙ none))
    go rest (Some t) some =
        let keeps = step-keeps limit s t b some in
        let grown : length t.opened ≤ length s.opened + 1 = keeps.1 in
        run-cons limit s t b bs some ∙ rest t (omega arith) (omega arith) ∙ sym (run-cons more s t b bs (sym same ∙ some))

-- ---- where a run may end

pub broken-past : (limit : ℕ) (rest : List ℕ) (s : State) (at : ℕ) → run limit s rest ≡ Broken at → s.place ≤ at
unfolding run go_on
broken-past limit [] s at e = let here = end-broken s.next s.opened s.nodes s.place at e in omega (arith, here)
broken-past limit (b ∷ bs) s at e = go (λ t q. broken-past limit bs t at q) (step limit s b) refl e
  where
    go : ((t : State) → run limit t bs ≡ Broken at → t.place ≤ at) → (o : Option State) → step limit s b ≡ o
        → go_on (Broken s.place) (λ t. run limit t bs) o ≡ Broken at → s.place ≤ at
    go rest None none q = let here = same_place s.place at q in omega (arith, here)
    go rest (Some t) some q = let keeps = step-keeps limit s t b some in let past = rest t q in omega (arith, keeps.0, past)

after-whole : (opened : List Open) (nodes : List Node) (p : ℕ) (ns : List Node) → after_end opened nodes p ≡ Whole ns → length opened ≡ 0
unfolding after_end
after-whole [] nodes p ns e = refl
after-whole (o ∷ os) nodes p ns e = absurd cc

-- nothing is open at the end of a whole text
pub end-whole_closed : (next : Next) (opened : List Open) (nodes : List Node) (p : ℕ) (ns : List Node)
    → next_end next opened nodes p ≡ Whole ns → length opened ≡ 0
unfolding next_end
end-whole_closed (Expecting expect.Value) opened nodes p ns e = absurd cc
end-whole_closed (Expecting expect.FirstItem) opened nodes p ns e = absurd cc
end-whole_closed (Expecting expect.FirstName) opened nodes p ns e = absurd cc
end-whole_closed (Expecting expect.Name) opened nodes p ns e = absurd cc
end-whole_closed (Expecting expect.Colon) opened nodes p ns e = absurd cc
end-whole_closed (Expecting expect.After) opened nodes p ns e = after-whole opened nodes p ns e
end-whole_closed (InWord k word start) opened nodes p ns e = absurd cc
end-whole_closed (InNumber here start) opened nodes p ns e = by_end (may_end here) e
  where
    broken_whole : (p : ℕ) (ns : List Node) → Broken p ≡ Whole ns → ⊥
    broken_whole p ns e = cc

    by_end : (b : Bool) → cond b (after_end opened (with_leaf kind.Number start p nodes) p) (Broken p) ≡ Whole ns → length opened ≡ 0
    by_end true e = after-whole opened (with_leaf kind.Number start p nodes) p ns e
    by_end false e = absurd (broken_whole p ns e)
end-whole_closed (InText here x start) opened nodes p ns e = absurd cc

-- a run to the end of a text, from a state in which one is open, begins in the text
pub whole-within : (limit : ℕ) (text : List ℕ) (s : State) (ns : List Node) → run limit s (drop s.place text) ≡ Whole ns
    → 0 < length s.opened → s.place < length text
whole-within limit text s ns e some =
    elim (cases_lt s.place (length text)) [
      | inl lt ↦ lt
      | inr le ↦ let none = end-whole_closed s.next s.opened s.nodes s.place ns (sym (run-end limit s text le) ∙ e) in
          absurd (omega (arith, some, none))
    ]

-- Why a text is refused, in words of the grammar; and the answers exclude one another.
use Rattle.std.proofs.Common.{◌≡◌, ℕ, ◌<◌, ◌≤◌, ◌⊎◌, max, inl, inr, zero, suc, true, false, true≢false, List, [], ◌∷◌, length, take}
use Rattle.std.proofs.Common.{take_all, Result, Ok, Err, refl, sym, ap, subst, ◌∙◌, arith}
use Rattle.std.proofs.lemmas.Bool.{cases_lt, cases_Bool}
use Rattle.std.specs.Prelude.{IfOk, IfErr}
use Rattle.std.specs.Str.{IsUtf8, IsValidUpTo, is_utf8}
use Rattle.std.proofs.lemmas.Str.{utf8_valid_len-IsValidUpTo, IsUtf8-nil, IsUtf8-from_is_utf8, is_utf8-from_IsUtf8}
use Rattle.json_scan.specs.declared.node.Node.{Node}
use Rattle.json_scan.specs.declared.walk.ScanError.{ScanError}
use Rattle.json_scan.specs.declared.walk.ScanError.TheVariants.{NotUtf8, NotJson, TooDeep, NoMemory}
use Rattle.json_scan.specs.Machine.{before_value, text_start, Outcome, Whole, Broken}
use Rattle.json_scan.specs.Walks.{Breaks}
use Rattle.json_scan.specs.Grammar.{Document, IsDocument, value_depth, document_text, document_nodes}
use Rattle.json_scan.specs.Scans.{HasNodes, IsRefused}
use Rattle.json_scan.specs.Places.{IsLongestViable, IsDeepBracket, IsJsonText, IsRefusedFor, IsRefusal, brackets_of_depth}
use Rattle.json_scan.specs.Stops.{outcome_of}
use Rattle.json_scan.proofs.Documents.{document-read, document-found}
use Rattle.json_scan.proofs.Viable.{same_place, whole_not_broken}
use Rattle.json_scan.proofs.TooDeep.{document-breaks, document-shallow, document-inside}
use Rattle.json_scan.proofs.Prefixes.{stops-longest, longest-found, longest-unique, json-viable, deep-stops, stops-deep, too_deep-found}

document-outcome : (limit : ℕ) (text : List ℕ) (d : Document) → IsDocument d → value_depth d.value ≤ limit → text ≡ document_text d
    → outcome_of limit text ≡ Whole (document_nodes d)
document-outcome limit text d is deep spelled = ap (outcome_of limit) spelled ∙ document-read limit d is deep

-- ---- what the walk says, in words of the grammar

json-not_broken : (text : List ℕ) (at : ℕ) → Breaks text (before_value (text_start text)) at → IsJsonText text → ⊥
json-not_broken text at broken (d, is, spelled) =
    let limit = max 64 (value_depth d.value) in
    whole_not_broken (document_nodes d) at (sym (document-outcome limit text d is (omega arith) spelled) ∙ broken.runs limit (omega arith))

not_json : (text : List ℕ) (at : ℕ) → IsUtf8 text → Breaks text (before_value (text_start text)) at → IsRefusedFor text (NotJson at)
not_json text at u broken =
    let long = stops-longest 64 text at u broken.runs in (
      u,
      long,
      λ deep bracket. let same : deep ≡ at = same_place at deep
          (sym (broken.runs 64 (omega arith)) ∙ deep-stops text at deep long bracket) in absurd (omega (arith, same, bracket.before)),
      json-not_broken text at broken,
    )

pub refused-for : (text : List ℕ) (e : ScanError) → IsRefused text e → (e ≡ NoMemory) ⊎ IsRefusedFor text e
refused-for text (NotUtf8 at) why = inr why
refused-for text (NotJson at) why = inr (not_json text at why.0 why.1)
refused-for text (TooDeep at) why = inr (why.0, too_deep-found text at why.0 why.1)
refused-for text NoMemory why = inl refl

pub reasons : {A : Type 0} (text : List ℕ) (r : Result A ScanError) → IfErr r (λ e. IsRefused text e)
    → IfErr r (λ e. (e ≡ NoMemory) ⊎ IsRefusedFor text e)
reasons text (Ok a) why = tt
reasons text (Err e) why = refused-for text e why

-- ---- the answers exclude one another

pub same-refusal : (text : List ℕ) (e f : ScanError) → IsRefusedFor text e → IsRefusedFor text f → f ≡ e
same-refusal text (NotUtf8 a) (NotUtf8 b) x y = ap NotUtf8
    (sym (utf8_valid_len-IsValidUpTo text b y.1) ∙ utf8_valid_len-IsValidUpTo text a x.1)
same-refusal text (NotUtf8 a) (NotJson b) x y = absurd (x.0 y.0)
same-refusal text (NotUtf8 a) (TooDeep b) x y = absurd (x.0 y.0)
same-refusal text (NotJson a) (NotUtf8 b) x y = absurd (y.0 x.0)
same-refusal text (NotJson a) (NotJson b) x y = ap NotJson (longest-unique text b a y.1 x.1)
same-refusal text (NotJson a) (TooDeep b) (u, long, none, other) (v, (n, long2, deep)) =
    absurd (none b (subst (λ (k : ℕ). IsDeepBracket text k b) (longest-unique text n a long2 long) deep))
same-refusal text (TooDeep a) (NotUtf8 b) x y = absurd (y.0 x.0)
same-refusal text (TooDeep a) (NotJson b) (u, (n, long, deep)) (v, long2, none, other) =
    absurd (none a (subst (λ (k : ℕ). IsDeepBracket text k a) (longest-unique text n b long long2) deep))
same-refusal text (TooDeep a) (TooDeep b) (u, (n, long, deep)) (v, (m, long2, deep2)) =
    ap TooDeep (same_place a b (sym (deep-stops text n a long deep) ∙ deep-stops text m b long2 deep2))
same-refusal text NoMemory f x y = absurd x
same-refusal text e NoMemory x y = absurd y

pub not_refused : (text : List ℕ) (nodes : List Node) (e : ScanError) → HasNodes text nodes → IsRefusedFor text e → ⊥
not_refused text nodes (NotUtf8 at) (u, read) why = why.0 u
not_refused text nodes (NotJson at) (u, (d, is)) why = why.3 (d, is.document, is.spelled)
not_refused text nodes (TooDeep at) (u, (d, is)) (v, (n, long, deep)) =
    whole_not_broken (document_nodes d) at
    (sym (document-outcome 64 text d is.document is.depth is.spelled) ∙ deep-stops text n at long deep)
not_refused text nodes NoMemory read why = why

-- what is refused for a reason is refused with it, unless memory runs out
pub is_refusal : {A : Type 0} (text : List ℕ) (r : Result A ScanError) (nodes : A → List Node) → IfOk r (λ a. HasNodes text (nodes a))
    → IfErr r (λ e. (e ≡ NoMemory) ⊎ IsRefusedFor text e)
    → (e : ScanError) → IsRefusedFor text e → IsRefusal r e
is_refusal text (Ok a) nodes found refused e why = not_refused text (nodes a) e found why
is_refusal text (Err f) nodes found (inl short) e why = inr short
is_refusal text (Err f) nodes found (inr reason) e why = inl (same-refusal text e f why reason)

pub is_refusal-utf8 : (text : List ℕ) (at : ℕ) → ¬ (IsUtf8 text) → IsValidUpTo text at → (e : ScanError) → IsRefusedFor text e
    → (NotUtf8 at ≡ e) ⊎ (NotUtf8 at ≡ NoMemory)
is_refusal-utf8 text at no_text valid e why = inl (same-refusal text e (NotUtf8 at) why (no_text, valid))

-- ---- each text has an answer

-- the longest prefix of no more than m bytes that is UTF-8
longest_text : (text : List ℕ) (m : ℕ) → (n : ℕ) × (n ≤ m) × IsUtf8 (take n text) × ((k : ℕ) → n < k → k ≤ m → ¬ (IsUtf8 (take k text)))
longest_text text zero = (0, omega arith, IsUtf8-nil, λ k above within. absurd (omega arith))
longest_text text (suc m) = go (longest_text text m) (cases_Bool (is_utf8 (take (suc m) text)))
  where
    go : ((n : ℕ) × (n ≤ m) × IsUtf8 (take n text) × ((k : ℕ) → n < k → k ≤ m → ¬ (IsUtf8 (take k text))))
        → ((is_utf8 (take (suc m) text) ≡ true) ⊎ (is_utf8 (take (suc m) text) ≡ false))
        → (n : ℕ) × (n ≤ suc m) × IsUtf8 (take n text) × ((k : ℕ) → n < k → k ≤ suc m → ¬ (IsUtf8 (take k text)))
    go rest (inl whole) = (suc m, omega arith, IsUtf8-from_is_utf8 (take (suc m) text) whole, λ k above within. absurd (omega arith))
    go (n, le, front, longest) (inr cut) = (
      n,
      omega (arith, le),
      front,
      λ k above within u. elim (cases_lt m k) [
        | inl top ↦ let same : k ≡ suc m = omega arith in
            true≢false (sym (is_utf8-from_IsUtf8 (take (suc m) text) (subst (λ (i : ℕ). IsUtf8 (take i text)) same u)) ∙ cut)
        | inr low ↦ longest k above low u
      ],
    )

no_text-answered : (text : List ℕ) → ¬ (IsUtf8 text) → (e : ScanError) × IsRefusedFor text e
no_text-answered text cut = build (longest_text text (length text))
  where
    all : (k : ℕ) → length text ≤ k → IsUtf8 (take k text) → ⊥
    all k past u = cut (subst IsUtf8 (take_all k text past) u)

    build : ((n : ℕ) × (n ≤ length text) × IsUtf8 (take n text) × ((k : ℕ) → n < k → k ≤ length text → ¬ (IsUtf8 (take k text))))
        → (e : ScanError) × IsRefusedFor text e
    build (n, le, front, longest) =
        let valid : IsValidUpTo text n = record {
          short = elim (cases_lt n (length text)) [ inl lt ↦ lt | inr past ↦ absurd (all n past front) ];
          front = front;
          longest = λ k above u. elim (cases_lt k (length text)) [ inl lt ↦ longest k above (omega arith) u | inr past ↦ all k past u ];
        } in
        (NotUtf8 n, (cut, valid))

-- where the machine with limit 64 stops at the end of the longest viable prefix or behind it, the text is not JSON
stopped-not_json : (text : List ℕ) (n at : ℕ) → IsUtf8 text → IsLongestViable text n → n ≤ at → outcome_of 64 text ≡ Broken at
    → IsJsonText text → ⊥
stopped-not_json text n at u long le broken (d, is, spelled) = go (brackets_of_depth 65 d) refl
  where
    go : (brackets : List ℕ) → brackets_of_depth 65 d ≡ brackets → ⊥
    go [] e = whole_not_broken (document_nodes d) at (sym (document-outcome 64 text d is (document-shallow d e) spelled) ∙ broken)
    go (x ∷ others) e =
        let same : at ≡ x = same_place x at (sym (document-breaks d x others is e) ∙ sym (ap (outcome_of 64) spelled) ∙ broken) in
        let inside = document-inside d x others e in
        let reach = long.longest (length text) (json-viable text d u is spelled) in
        absurd (omega (arith, same, inside, reach, ap length spelled))

text-answered : (text : List ℕ) → IsUtf8 text → ((nodes : List Node) × HasNodes text nodes) ⊎ ((e : ScanError) × IsRefusedFor text e)
text-answered text u = go (outcome_of 64 text) refl
  where
    stopped : (at : ℕ) → outcome_of 64 text ≡ Broken at → (n : ℕ) → IsLongestViable text n → (e : ScanError) × IsRefusedFor text e
    stopped at broken n long =
        elim (cases_lt at n) [
          | inl lt ↦ (TooDeep at, (u, (n, long, stops-deep text n at long lt broken)))
          | inr le ↦ (
            NotJson n,
            (
              u,
              long,
              λ deep bracket. let same : deep ≡ at = same_place at deep (sym broken ∙ deep-stops text n deep long bracket) in
                  absurd (omega (arith, same, bracket.before)),
              stopped-not_json text n at u long le broken,
            ),
          )
        ]

    go : (o : Outcome) → outcome_of 64 text ≡ o → ((nodes : List Node) × HasNodes text nodes) ⊎ ((e : ScanError) × IsRefusedFor text e)
    go (Whole nodes) e = inl (nodes, (u, document-found 64 text nodes e))
    go (Broken at) e = let found = longest-found text u in inr (stopped at e found.0 found.1)

pub answered : (text : List ℕ) → ((nodes : List Node) × HasNodes text nodes) ⊎ ((e : ScanError) × IsRefusedFor text e)
answered text =
    elim (cases_Bool (is_utf8 text)) [
      | inl whole ↦ text-answered text (IsUtf8-from_is_utf8 text whole)
      | inr cut ↦ inr (no_text-answered text (λ u. true≢false (sym (is_utf8-from_IsUtf8 text u) ∙ cut)))
    ]

-- The first List or Object that is too deep is where the machine with a limit breaks.
use Rattle.std.proofs.Common.{◌≡◌, ℕ, zero, suc, ◌+◌, ◌<◌, ◌≤◌, ◌⊎◌, inl, inr, Bool, true, false, cond, ltb, List, [], ◌∷◌, ◌++◌, length}
use Rattle.std.proofs.Common.{drop, refl, ap, ◌∙◌, arith}
use Rattle.std.proofs.lemmas.Bool.{cond-false, le-ltb}
use Rattle.std.proofs.lemmas.List.{length-append}
use Rattle.json_scan.specs.declared.node.Kind.TheVariants as kind
use Rattle.json_scan.specs.declared.node.Holder.{Holder}
use Rattle.json_scan.specs.declared.node.Holder.TheVariants as holder
use Rattle.json_scan.specs.declared.node.Open.{Open}
use Rattle.json_scan.specs.declared.node.Node.{Node}
use Rattle.json_scan.specs.declared.walk.Expect.{Expect}
use Rattle.json_scan.specs.declared.walk.Expect.TheVariants as expect
use Rattle.json_scan.specs.Machine.{Expecting, state, with_leaf, open_step, value_step, token_step, expecting_step, next_step, step, run}
use Rattle.json_scan.specs.Machine.{before_value, text_start, Broken, go_on}
use Rattle.json_scan.specs.Grammar.{Value, Null, False, True, Number, Text, EmptyList, FullList, EmptyObject, FullObject, Items, LastItem}
use Rattle.json_scan.specs.Grammar.{NextItem, Members, LastMember, NextMember, quoted_then, value_then, items_then, members_then, IsValue}
use Rattle.json_scan.specs.Grammar.{AreItems, AreMembers, value_depth, items_depth, members_depth, value_width, quoted_width, value_nodes}
use Rattle.json_scan.specs.Grammar.{Document, IsDocument, mark_then, document_text}
use Rattle.json_scan.specs.Places.{value_brackets, items_brackets, members_brackets, brackets_of_depth}
use Rattle.json_scan.proofs.Leaves.{gap-runs}
use Rattle.json_scan.proofs.Accepted.{Stops-gap, Stops-comma, open_at, opened_node, opener_of, opens, further, TakesValue, first-takes}
use Rattle.json_scan.proofs.Accepted.{value-takes, as-value, TakesName, first-takes_name, next-takes_name, name-runs, colon-runs}
use Rattle.json_scan.proofs.Accepted.{value-runs}
use Rattle.json_scan.proofs.Widths.{value-width, items-width, members-width, quoted-width}
use Rattle.json_scan.proofs.Documents.{value-no_mark}

-- ---- lists in two parts

both-empty : (xs ys : List ℕ) → xs ++ ys ≡ [] → (xs ≡ []) × (ys ≡ [])
both-empty [] ys e = (refl, e)
both-empty (x ∷ xs) ys e = absurd cc

-- the first of a joined list
first-of_two : (xs ys : List ℕ) (at : ℕ) (others : List ℕ) → xs ++ ys ≡ at ∷ others
    → ((rest : List ℕ) × (xs ≡ at ∷ rest)) ⊎ ((xs ≡ []) × (ys ≡ at ∷ others))
first-of_two [] ys at others e = inr (refl, e)
first-of_two (x ∷ xs) ys at others e = let same : x ≡ at = cc in inl (xs, ap (λ (k : ℕ). k ∷ xs) same)

none-first : {Q : Type 0} (at : ℕ) (others : List ℕ) → [] ≡ at ∷ others → Q
none-first at others e = absurd cc

some-none : {Q : Type 0} (at : ℕ) (others : List ℕ) → at ∷ others ≡ [] → Q
some-none at others e = absurd cc

only-first : (p at : ℕ) (others : List ℕ) → p ∷ [] ≡ at ∷ others → p ≡ at
only-first p at others e = cc

-- ---- a value with no bracket that so many hold is no deeper

mutual
  pub value-shallow : (v : Value) (holders p : ℕ) → value_brackets v holders p ≡ [] → value_depth v ≤ holders
  value-shallow Null holders p e = omega arith
  value-shallow False holders p e = omega arith
  value-shallow True holders p e = omega arith
  value-shallow (Number n) holders p e = omega arith
  value-shallow (Text ps) holders p e = omega arith
  value-shallow (EmptyList gap) zero p e = some-none p [] e
  value-shallow (EmptyList gap) (suc holders) p e = omega arith
  value-shallow (FullList items) zero p e = some-none p [] e
  value-shallow (FullList items) (suc holders) p e = let inner = items-shallow items holders (p + 1) e in omega (arith, inner)
  value-shallow (EmptyObject gap) zero p e = some-none p [] e
  value-shallow (EmptyObject gap) (suc holders) p e = omega arith
  value-shallow (FullObject members) zero p e = some-none p [] e
  value-shallow (FullObject members) (suc holders) p e = let inner = members-shallow members holders (p + 1) e in omega (arith, inner)

  items-shallow : (items : Items) (holders p : ℕ) → items_brackets items holders p ≡ [] → items_depth items ≤ holders
  items-shallow (LastItem before v after) holders p e = value-shallow v holders (p + length before) e
  items-shallow (NextItem before v after items) holders p e =
      let two = both-empty (value_brackets v holders (p + length before)) _ e in
      let first = value-shallow v holders (p + length before) two.0 in
      let rest = items-shallow items holders (p + length before + value_width v + length after + 1) two.1 in
      omega (arith, first, rest)

  members-shallow : (members : Members) (holders p : ℕ) → members_brackets members holders p ≡ [] → members_depth members ≤ holders
  members-shallow (LastMember before name behind ahead v after) holders p e =
      value-shallow v holders (p + length before + quoted_width name + length behind + 1 + length ahead) e
  members-shallow (NextMember before name behind ahead v after members) holders p e =
      let at_value : ℕ = p + length before + quoted_width name + length behind + 1 + length ahead in
      let two = both-empty (value_brackets v holders at_value) _ e in
      let first = value-shallow v holders at_value two.0 in
      let rest = members-shallow members holders (at_value + value_width v + length after + 1) two.1 in
      omega (arith, first, rest)

-- ---- brackets stand inside the value

mutual
  value-inside : (v : Value) (holders p at : ℕ) (others : List ℕ) → value_brackets v holders p ≡ at ∷ others → at < p + value_width v
  value-inside Null holders p at others e = none-first at others e
  value-inside False holders p at others e = none-first at others e
  value-inside True holders p at others e = none-first at others e
  value-inside (Number n) holders p at others e = none-first at others e
  value-inside (Text ps) holders p at others e = none-first at others e
  value-inside (EmptyList gap) zero p at others e = let same = only-first p at others e in omega (arith, same)
  value-inside (EmptyList gap) (suc holders) p at others e = none-first at others e
  value-inside (FullList items) zero p at others e = let same = only-first p at others e in omega (arith, same)
  value-inside (FullList items) (suc holders) p at others e = let inner = items-inside items holders (p + 1) at others e in
      omega (arith, inner, items-width items (93 ∷ []))
  value-inside (EmptyObject gap) zero p at others e = let same = only-first p at others e in omega (arith, same)
  value-inside (EmptyObject gap) (suc holders) p at others e = none-first at others e
  value-inside (FullObject members) zero p at others e = let same = only-first p at others e in omega (arith, same)
  value-inside (FullObject members) (suc holders) p at others e = let inner = members-inside members holders (p + 1) at others e in
      omega (arith, inner, members-width members (125 ∷ []))

  items-inside : (items : Items) (holders p at : ℕ) (others : List ℕ) → items_brackets items holders p ≡ at ∷ others
      → at < p + length (items_then items [])
  items-inside (LastItem before v after) holders p at others e =
      let first = value-inside v holders (p + length before) at others e in
      omega (arith, first, length-append before (value_then v (after ++ [])), value-width v (after ++ []))
  items-inside (NextItem before v after items) holders p at others e =
      let rest : List ℕ = 44 ∷ items_then items [] in
      elim (first-of_two (value_brackets v holders (p + length before)) _ at others e) [
        | inl (rest_of, here) ↦
            let first = value-inside v holders (p + length before) at rest_of here in
            omega (arith, first, length-append before (value_then v (after ++ rest)), value-width v (after ++ rest))
        | inr (none, later) ↦
            let inner = items-inside items holders (p + length before + value_width v + length after + 1) at others later in
            omega (
              arith,
              inner,
              length-append before (value_then v (after ++ rest)),
              value-width v (after ++ rest),
              length-append after rest,
            )
      ]

  members-inside : (members : Members) (holders p at : ℕ) (others : List ℕ) → members_brackets members holders p ≡ at ∷ others
      → at < p + length (members_then members [])
  members-inside (LastMember before name behind ahead v after) holders p at others e =
      let tail : List ℕ = ahead ++ value_then v (after ++ []) in
      let first = value-inside v holders (p + length before + quoted_width name + length behind + 1 + length ahead) at others e in
      omega (
        arith,
        first,
        length-append before (quoted_then name (behind ++ (58 ∷ tail))),
        quoted-width name (behind ++ (58 ∷ tail)),
        length-append behind (58 ∷ tail),
        length-append ahead (value_then v (after ++ [])),
        value-width v (after ++ []),
      )
  members-inside (NextMember before name behind ahead v after members) holders p at others e =
      let rest : List ℕ = 44 ∷ members_then members [] in
      let tail : List ℕ = ahead ++ value_then v (after ++ rest) in
      let at_value : ℕ = p + length before + quoted_width name + length behind + 1 + length ahead in
      let widths : length (before ++ quoted_then name (behind ++ (58 ∷ tail)))
      ≡ length before + quoted_width name + length behind + 1 + length ahead + value_width v + length (after ++ rest) =
      omega (
        arith,
        length-append before (quoted_then name (behind ++ (58 ∷ tail))),
        quoted-width name (behind ++ (58 ∷ tail)),
        length-append behind (58 ∷ tail),
        length-append ahead (value_then v (after ++ rest)),
        value-width v (after ++ rest),
      ) in
      elim (first-of_two (value_brackets v holders at_value) _ at others e) [
        | inl (rest_of, here) ↦ let first = value-inside v holders at_value at rest_of here in omega (arith, first, widths)
        | inr (none, later) ↦ let inner = members-inside members holders (at_value + value_width v + length after + 1) at others later in
            omega (arith, inner, widths, length-append after rest)
      ]

-- ---- a bracket where as many are open as may be

full-breaks : (limit : ℕ) (h : Holder) (opened : List Open) (nodes : List Node) (p : ℕ) (bs : List ℕ) → limit ≤ length opened
    → run limit (state (Expecting expect.Value) opened nodes p) (opener_of h ∷ bs) ≡ Broken p
unfolding run go_on step next_step expecting_step token_step value_step open_step
full-breaks limit holder.List opened nodes p bs le =
    ap (go_on (Broken p) (λ t. run limit t bs)) (cond-false (ltb (length opened) limit) _ _ (le-ltb _ _ le))
full-breaks limit holder.Object opened nodes p bs le =
    ap (go_on (Broken p) (λ t. run limit t bs)) (cond-false (ltb (length opened) limit) _ _ (le-ltb _ _ le))

-- the same, at the place that is named
full-at : (limit : ℕ) (h : Holder) (opened : List Open) (nodes : List Node) (p at : ℕ) (others bs : List ℕ) → length opened + 0 ≡ limit
    → p ∷ [] ≡ at ∷ others
    → run limit (state (Expecting expect.Value) opened nodes p) (opener_of h ∷ bs) ≡ Broken at
full-at limit h opened nodes p at others bs full e = full-breaks limit h opened nodes p bs (omega (arith, full))
    ∙ ap Broken (only-first p at others e)

mutual
  pub value-breaks : (v : Value) (limit holders : ℕ) (opened : List Open) (nodes : List Node) (p at : ℕ) (others rest : List ℕ) → IsValue v
      → length opened + holders ≡ limit → value_brackets v holders p ≡ at ∷ others
      → run limit (state (Expecting expect.Value) opened nodes p) (value_then v rest) ≡ Broken at
  value-breaks Null limit holders opened nodes p at others rest fits full e = none-first at others e
  value-breaks False limit holders opened nodes p at others rest fits full e = none-first at others e
  value-breaks True limit holders opened nodes p at others rest fits full e = none-first at others e
  value-breaks (Number n) limit holders opened nodes p at others rest fits full e = none-first at others e
  value-breaks (Text ps) limit holders opened nodes p at others rest fits full e = none-first at others e
  value-breaks (EmptyList gap) limit zero opened nodes p at others rest fits full e =
      full-at limit holder.List opened nodes p at others _ full e
  value-breaks (EmptyList gap) limit (suc holders) opened nodes p at others rest fits full e = none-first at others e
  value-breaks (FullList items) limit zero opened nodes p at others rest fits full e =
      full-at limit holder.List opened nodes p at others _ full e
  value-breaks (FullList items) limit (suc holders) opened nodes p at others rest fits full e =
      opens limit holder.List opened nodes p (items_then items (93 ∷ rest)) (omega arith)
      ∙ items-break items limit holders expect.FirstItem p (length nodes) opened (nodes ++ opened_node holder.List p ∷ []) (p + 1) at others
      (93 ∷ rest) first-takes fits (omega arith) e
  value-breaks (EmptyObject gap) limit zero opened nodes p at others rest fits full e =
      full-at limit holder.Object opened nodes p at others _ full e
  value-breaks (EmptyObject gap) limit (suc holders) opened nodes p at others rest fits full e = none-first at others e
  value-breaks (FullObject members) limit zero opened nodes p at others rest fits full e =
      full-at limit holder.Object opened nodes p at others _ full e
  value-breaks (FullObject members) limit (suc holders) opened nodes p at others rest fits full e =
      opens limit holder.Object opened nodes p (members_then members (125 ∷ rest)) (omega arith)
      ∙ members-break members limit holders expect.FirstName p (length nodes) opened (nodes ++ opened_node holder.Object p ∷ [])
      (p + 1) at others (125 ∷ rest) first-takes_name fits (omega arith) e

  items-break : (items : Items) (limit holders : ℕ) (x : Expect) (start number : ℕ) (opened : List Open) (nodes : List Node) (p at : ℕ)
      (others rest : List ℕ) → TakesValue x → AreItems items
      → length opened + 1 + holders ≡ limit → items_brackets items holders p ≡ at ∷ others
      → run limit (state (Expecting x) (open_at holder.List start number ∷ opened) nodes p) (items_then items rest) ≡ Broken at
  items-break (LastItem before v after) limit holders x start number opened nodes p at others rest takes fits full e =
      let os : List Open = open_at holder.List start number ∷ opened in
      gap-runs limit x os nodes p (p + length before) before (value_then v (after ++ rest)) fits.0 refl
      ∙ as-value limit x os nodes (p + length before) v (after ++ rest) takes fits.1
      ∙ value-breaks v limit holders os nodes (p + length before) at others (after ++ rest) fits.1 (omega arith) e
  items-break (NextItem before v after items) limit holders x start number opened nodes p at others rest takes fits full e =
      let os : List Open = open_at holder.List start number ∷ opened in
      let first : List Node = value_nodes v (p + length before) (length nodes) in
      gap-runs limit x os nodes p (p + length before) before (value_then v (after ++ 44 ∷ items_then items rest)) fits.0 refl
      ∙ as-value limit x os nodes (p + length before) v (after ++ 44 ∷ items_then items rest) takes fits.1
      ∙ elim (first-of_two (value_brackets v holders (p + length before)) _ at others e) [
        | inl (rest_of, here) ↦ value-breaks v limit holders os nodes (p + length before) at rest_of
            (after ++ 44 ∷ items_then items rest) fits.1 (omega arith) here
        | inr (none, later) ↦
            let shallow = value-shallow v holders (p + length before) none in
            value-runs v limit os nodes (p + length before) (p + length before + value_width v) (after ++ 44 ∷ items_then items rest) fits.1
            (omega (arith, shallow, full)) (Stops-gap after (44 ∷ items_then items rest) fits.2 (Stops-comma (items_then items rest)))
            refl
            ∙ gap-runs limit expect.After os (nodes ++ first) (p + length before + value_width v)
            (p + length before + value_width v + length after) after (44 ∷ items_then items rest) fits.2 refl
            ∙ further limit holder.List start number opened (nodes ++ first) (p + length before + value_width v + length after)
            (items_then items rest)
            ∙ items-break items limit holders expect.Value start number opened (nodes ++ first)
            (p + length before + value_width v + length after + 1) at others rest value-takes fits.3 full later
      ]

  members-break : (members : Members) (limit holders : ℕ) (x : Expect) (start number : ℕ) (opened : List Open) (nodes : List Node)
      (p at : ℕ) (others rest : List ℕ) → TakesName x → AreMembers members
      → length opened + 1 + holders ≡ limit → members_brackets members holders p ≡ at ∷ others
      → run limit (state (Expecting x) (open_at holder.Object start number ∷ opened) nodes p) (members_then members rest) ≡ Broken at
  members-break (LastMember before name behind ahead v after) limit holders x start number opened nodes p at others rest takes fits full e =
      let os : List Open = open_at holder.Object start number ∷ opened in
      let s : ℕ = p + length before in
      let at_value : ℕ = s + quoted_width name + length behind + 1 + length ahead in
      let named : List Node = with_leaf kind.Text s (s + quoted_width name) nodes in
      gap-runs limit x os nodes p s before _ fits.0 refl
      ∙ name-runs limit x os nodes s (s + quoted_width name) name _ takes fits.1 refl
      ∙ gap-runs limit expect.Colon os named (s + quoted_width name) (s + quoted_width name + length behind) behind _ fits.2 refl
      ∙ colon-runs limit os named (s + quoted_width name + length behind) _
      ∙ gap-runs limit expect.Value os named (s + quoted_width name + length behind + 1) at_value ahead _ fits.3 refl
      ∙ value-breaks v limit holders os named at_value at others (after ++ rest) fits.4 (omega arith) e
  members-break (NextMember before name behind ahead v after members) limit holders x start number opened nodes p at others rest takes fits
      full e =
      let os : List Open = open_at holder.Object start number ∷ opened in
      let s : ℕ = p + length before in
      let at_value : ℕ = s + quoted_width name + length behind + 1 + length ahead in
      let named : List Node = with_leaf kind.Text s (s + quoted_width name) nodes in
      let inner : List Node = named ++ value_nodes v at_value (length named) in
      gap-runs limit x os nodes p s before _ fits.0 refl
      ∙ name-runs limit x os nodes s (s + quoted_width name) name _ takes fits.1 refl
      ∙ gap-runs limit expect.Colon os named (s + quoted_width name) (s + quoted_width name + length behind) behind _ fits.2 refl
      ∙ colon-runs limit os named (s + quoted_width name + length behind) _
      ∙ gap-runs limit expect.Value os named (s + quoted_width name + length behind + 1) at_value ahead _ fits.3 refl
      ∙ elim (first-of_two (value_brackets v holders at_value) _ at others e) [
        | inl (rest_of, here) ↦ value-breaks v limit holders os named at_value at rest_of (after ++ 44 ∷ members_then members rest) fits.4
            (omega arith) here
        | inr (none, later) ↦
            let shallow = value-shallow v holders at_value none in
            value-runs v limit os named at_value (at_value + value_width v) (after ++ 44 ∷ members_then members rest) fits.4
            (omega (arith, shallow, full))
            (Stops-gap after (44 ∷ members_then members rest) fits.5 (Stops-comma (members_then members rest))) refl
            ∙ gap-runs limit expect.After os inner (at_value + value_width v) (at_value + value_width v + length after) after
            (44 ∷ members_then members rest) fits.5 refl
            ∙ further limit holder.Object start number opened inner (at_value + value_width v + length after) (members_then members rest)
            ∙ members-break members limit holders expect.Name start number opened inner
            (at_value + value_width v + length after + 1) at others rest next-takes_name fits.6 full later
      ]

-- ---- whole documents

-- the machine with limit 64 breaks at the first bracket of depth 65
pub document-breaks : (d : Document) (at : ℕ) (others : List ℕ) → IsDocument d → brackets_of_depth 65 d ≡ at ∷ others
    → run 64 (before_value (text_start (document_text d))) (drop (text_start (document_text d)) (document_text d)) ≡ Broken at
document-breaks d at others fits e = with_mark d.mark e
  where
    inner : List ℕ
    inner = d.before ++ value_then d.value d.after

    from : (p : ℕ) → value_brackets d.value 64 (p + length d.before) ≡ at ∷ others → run 64 (before_value p) inner ≡ Broken at
    from p e =
        gap-runs 64 expect.Value [] [] p (p + length d.before) d.before (value_then d.value d.after) fits.before refl
        ∙ value-breaks d.value 64 64 [] [] (p + length d.before) at others d.after fits.value refl e

    with_mark : (mark : Bool) → value_brackets d.value 64 (cond mark 3 0 + length d.before) ≡ at ∷ others
        → run 64 (before_value (text_start (mark_then mark inner))) (drop (text_start (mark_then mark inner)) (mark_then mark inner))
        ≡ Broken at
    with_mark true e = from 3 e
    with_mark false e =
        ap (λ (m : Bool). run 64 (before_value (cond m 3 0)) (drop (cond m 3 0) inner))
        (value-no_mark d.before d.value d.after fits.before fits.value)
        ∙ from 0 e

pub document-shallow : (d : Document) → brackets_of_depth 65 d ≡ [] → value_depth d.value ≤ 64
document-shallow d e = value-shallow d.value 64 (cond d.mark 3 0 + length d.before) e

pub document-inside : (d : Document) (at : ℕ) (others : List ℕ) → brackets_of_depth 65 d ≡ at ∷ others → at < length (document_text d)
document-inside d at others e = with_mark d.mark e
  where
    inner : List ℕ
    inner = d.before ++ value_then d.value d.after

    from : (p : ℕ) → value_brackets d.value 64 (p + length d.before) ≡ at ∷ others → at < p + length inner
    from p e =
        let first = value-inside d.value 64 (p + length d.before) at others e in
        omega (arith, first, length-append d.before (value_then d.value d.after), value-width d.value d.after)

    with_mark : (mark : Bool) → value_brackets d.value 64 (cond mark 3 0 + length d.before) ≡ at ∷ others
        → at < length (mark_then mark inner)
    with_mark true e = let inside = from 3 e in omega (arith, inside)
    with_mark false e = let inside = from 0 e in omega (arith, inside)

-- Words are a form exactly where they spell it.
use Rattle.std.proofs.Common.{◌≡◌, ℕ, ◌^◌, ◌≤◌, ◌&&◌, ℤ, pos, negsuc, List, [], ◌∷◌, ◌++◌, Option}
use Rattle.std.proofs.Common.{None, Some, Bool, true, false, cond, decimal, refl, sym, ap, subst, ◌∙◌, arith}
use Rattle.std.proofs.Common.{inl, inr}
use Rattle.std.proofs.lemmas.Bool.{and_parts}
use Rattle.std.proofs.lemmas.Int.{ints}
use Rattle.std.proofs.lemmas.Option.{none-some, same_Some, option_and_then_some}
use Rattle.std.specs.Prelude.{codes}
use Rattle.std.specs.Str.{bytes_eq}
use Rattle.grid_exact.specs.Weights.{Scales, IsWeight}
use Rattle.top_call.specs.declared.forms.Options.{Options}
use Rattle.top_call.specs.declared.words.Task.{Task}
use Rattle.top_call.specs.declared.words.Task.TheVariants as tasks
use Rattle.top_call.specs.Words.{Form, Simplify, Layers, Check, Faces, Make, Demo, Dissolve, Build, Pyramid, read_digits}
use Rattle.top_call.specs.Words.{between, number_between, bound_of, weights_of, is_name, are_names, named_form, bounded_form, weighed_form}
use Rattle.top_call.specs.Words.{held_form}
use Rattle.top_call.specs.Words.{task_form, faces_form, make_form, demo_form, dissolve_form, build_form, pyramid_form, is_polygon_list}
use Rattle.top_call.specs.Words.{polygons_in, is_bound_list, bounds_in, command_form, form_of}
use Rattle.top_call.specs.Requests.{digits, hold_words, options_words, list_word, spelling, IsBound, AreWeights, IsMakeable, IsWithinLimits}
use Rattle.top_call.specs.Requests.{Spells}
use Rattle.top_call.proofs.Numbers.{kept, one_of, mapped_some, same, number_spelled, number_found, number_in_range}
use Rattle.top_call.proofs.ListWords.{list_made, list_found, listed_found}

-- ---- bounds and weights

-- a bound that was read is the one that the word spells
bound_made : (word : List ℕ) (z : ℤ) → bound_of word ≡ Some z → (word ≡ digits z) × IsBound z
bound_made word z e =
    let found = mapped_some pos (number_between 0 (2 ^ 30) word) z e in
    subst (λ (y : ℤ). (word ≡ digits y) × IsBound y) found.2
    (number_spelled 0 (2 ^ 30) word found.0 (omega arith) found.1, bound_in_range word found.0 found.1)
  where
    bound_in_range : (word : List ℕ) (n : ℕ) → number_between 0 (2 ^ 30) word ≡ Some n → IsBound (pos n)
    bound_in_range word n e =
        let range = number_in_range 0 (2 ^ 30) word n e in
        let high : n ≤ 2 ^ 30 = range.1 in
        record { low = omega (arith, ints); high = omega (arith, ints) }

bound_found : (z : ℤ) → IsBound z → bound_of (digits z) ≡ Some z
bound_found (pos n) h = let high : n ≤ 2 ^ 30 =
    omega (arith, ints, h.high) in rw (number_found 0 (2 ^ 30) n (omega arith) (omega arith) high) refl
bound_found (negsuc n) h = absurd (omega (arith, ints, h.low))

weight_in_range : (word : List ℕ) (n : ℕ) → number_between 1 65536 word ≡ Some n → IsWeight (pos n)
weight_in_range word n e =
    let range = number_in_range 1 65536 word n e in
    let low : 1 ≤ n = range.0 in
    let high : n ≤ 65536 = range.1 in
    record { low = omega (arith, ints); high = omega (arith, ints) }

-- the weights that were read are those that the words spell
pub record AreSpelled (wx wy : List ℕ) (w : Scales) : Type 0 where
  pub across : wx ≡ digits w.x
  pub up : wy ≡ digits w.y
  pub weights : IsWeight w.x × IsWeight w.y

weights_made : (wx wy : List ℕ) (w : Scales) → weights_of wx wy ≡ Some w → AreSpelled wx wy w
weights_made wx wy w e =
    option_and_then_some _ (number_between 1 65536 wx) w e λ x x_is e_x.
    let found = mapped_some (λ y. record { x = pos x; y = pos y }) (number_between 1 65536 wy) w e_x in
    subst (λ (v : Scales). AreSpelled wx wy v) found.2 (record {
      across = number_spelled 1 65536 wx x (omega arith) x_is;
      up = number_spelled 1 65536 wy found.0 (omega arith) found.1;
      weights = (weight_in_range wx x x_is, weight_in_range wy found.0 found.1);
    })

weight_found : (z : ℤ) → IsWeight z → (n : ℕ) × (z ≡ pos n) × (number_between 1 65536 (digits z) ≡ Some n)
weight_found (pos n) h =
    let low : 1 ≤ n = omega (arith, ints, h.low) in
    let high : n ≤ 65536 = omega (arith, ints, h.high) in
    (n, refl, number_found 1 65536 n (omega arith) low high)
weight_found (negsuc n) h = absurd (omega (arith, ints, h.low))

weights_found : (w : Scales) → IsWeight w.x × IsWeight w.y → weights_of (digits w.x) (digits w.y) ≡ Some w
weights_found w h =
    let x = weight_found w.x h.0 in
    let y = weight_found w.y h.1 in
    rw (x.2, y.2) (λ i. Some (record { x = sym x.1 i; y = sym y.1 i }))

-- ---- words that are no number

not_word : (z : ℤ) (word : List ℕ) → IsBound z → bound_of word ≡ None → bytes_eq (digits z) word ≡ false
not_word z word h none = apart (bytes_eq (digits z) word) refl
  where
    apart : (b : Bool) → bytes_eq (digits z) word ≡ b → b ≡ false
    apart true e = absurd (none-some z (sym none ∙ ap bound_of (sym (same (digits z) word e)) ∙ bound_found z h))
    apart false e = refl

-- ---- the words of a task

abbrev pub command_of : Task → List ℕ
command_of tasks.Simplify = codes "simplify"
command_of tasks.Layers = codes "layers"
command_of tasks.Check = codes "check"

-- the words are those of the form, which is within its limits
pub record IsSpelled (words : List (List ℕ)) (f : Form) : Type 0 where
  pub spelled : words ≡ spelling f
  pub limits : IsWithinLimits f

-- words behind `--hold`, or behind the command, with some words of their own before them
behind : (task : Task) (hold : Bool) (own words : List (List ℕ)) (f : Form)
    → IsSpelled (command_of task ∷ ((hold_words hold ++ own) ++ words)) f
    → IsSpelled (command_of task ∷ (hold_words hold ++ (own ++ words))) f
behind task true own words f h = h
behind task false own words f h = h

named_made : (task : Task) (options : Options) (bound : ℤ) (names : List (List ℕ)) (f : Form) → AreWeights options.weights → IsBound bound
    → named_form task options bound names ≡ Some f → IsSpelled (command_of task ∷ (options_words options ++ digits bound ∷ names)) f
named_made tasks.Simplify options bound (file ∷ []) f w b e =
    let parts = kept (is_name file) (Some (Simplify options bound file)) f e in
    subst (λ (g : Form). IsSpelled (codes "simplify" ∷ (options_words options ++ digits bound ∷ file ∷ [])) g) (same_Some _ _ parts.1)
    (record { spelled = refl; limits = (w, b, parts.0) })
named_made tasks.Layers options bound (file ∷ []) f w b e =
    let parts = kept (is_name file) (Some (Layers options bound file)) f e in
    subst (λ (g : Form). IsSpelled (codes "layers" ∷ (options_words options ++ digits bound ∷ file ∷ [])) g) (same_Some _ _ parts.1)
    (record { spelled = refl; limits = (w, b, parts.0) })
named_made tasks.Check options bound (file ∷ out ∷ cert ∷ []) f w b e =
    let parts = kept (are_names file out cert) (Some (Check options bound file out cert)) f e in
    subst (λ (g : Form). IsSpelled (codes "check" ∷ (options_words options ++ digits bound ∷ file ∷ out ∷ cert ∷ [])) g)
    (same_Some _ _ parts.1) (record { spelled = refl; limits = (w, b, parts.0) })
named_made tasks.Simplify options bound [] f w b e = absurd (none-some f e)
named_made tasks.Simplify options bound (a ∷ c ∷ names) f w b e = absurd (none-some f e)
named_made tasks.Layers options bound [] f w b e = absurd (none-some f e)
named_made tasks.Layers options bound (a ∷ c ∷ names) f w b e = absurd (none-some f e)
named_made tasks.Check options bound [] f w b e = absurd (none-some f e)
named_made tasks.Check options bound (a ∷ []) f w b e = absurd (none-some f e)
named_made tasks.Check options bound (a ∷ c ∷ []) f w b e = absurd (none-some f e)
named_made tasks.Check options bound (a ∷ c ∷ d ∷ g ∷ names) f w b e = absurd (none-some f e)

bounded_made : (task : Task) (options : Options) (words : List (List ℕ)) (f : Form) → AreWeights options.weights
    → bounded_form task options words ≡ Some f → IsSpelled (command_of task ∷ (options_words options ++ words)) f
bounded_made task options [] f w e = absurd (none-some f e)
bounded_made task options (word ∷ names) f w e =
    option_and_then_some (λ (z : ℤ). named_form task options z names) (bound_of word) f e λ z z_is e_z.
    let bound = bound_made word z z_is in
    rw bound.0 (named_made task options z names f w bound.1 e_z)

weighed_made : (task : Task) (hold : Bool) (words : List (List ℕ)) (f : Form) → weighed_form task hold words ≡ Some f
    → IsSpelled (command_of task ∷ (hold_words hold ++ codes "--weights" ∷ words)) f
weighed_made task hold [] f e = absurd (none-some f e)
weighed_made task hold (wx ∷ []) f e = absurd (none-some f e)
weighed_made task hold (wx ∷ wy ∷ words) f e =
    option_and_then_some (λ (w : Scales). bounded_form task (record { hold = hold; weights = Some w }) words)
    (weights_of wx wy) f e λ w w_is e_w.
    let made = weights_made wx wy w w_is in
    let rest = bounded_made task (record { hold = hold; weights = Some w }) words f made.weights e_w in
    rw (made.across, made.up) (behind task hold (codes "--weights" ∷ digits w.x ∷ digits w.y ∷ []) words f rest)

held_made : (task : Task) (hold : Bool) (words : List (List ℕ)) (f : Form) → held_form task hold words ≡ Some f
    → IsSpelled (command_of task ∷ (hold_words hold ++ words)) f
held_made task hold [] f e = absurd (none-some f e)
held_made task hold (word ∷ words) f e =
    elim (one_of (bytes_eq word (codes "--weights")) _ _ f e) [
      | inl h ↦ rw (same word (codes "--weights") h.0) (weighed_made task hold words f h.1)
      | inr h ↦ behind task hold [] (word ∷ words) f (bounded_made task (record { hold = hold; weights = None }) (word ∷ words) f tt h)
    ]

task_made : (task : Task) (words : List (List ℕ)) (f : Form) → task_form task words ≡ Some f → IsSpelled (command_of task ∷ words) f
task_made task [] f e = absurd (none-some f e)
task_made task (word ∷ words) f e =
    elim (one_of (bytes_eq word (codes "--hold")) _ _ f e) [
      | inl h ↦ rw (same word (codes "--hold") h.0) (held_made task true words f h.1)
      | inr h ↦ held_made task false (word ∷ words) f h
    ]

-- ---- the other commands

faces_made : (words : List (List ℕ)) (f : Form) → faces_form words ≡ Some f → IsSpelled (codes "faces" ∷ words) f
faces_made [] f e = absurd (none-some f e)
faces_made (file ∷ []) f e =
    let parts = kept (is_name file) (Some (Faces file)) f e in
    subst (λ (g : Form). IsSpelled (codes "faces" ∷ file ∷ []) g) (same_Some _ _ parts.1) (record { spelled = refl; limits = parts.0 })
faces_made (a ∷ b ∷ words) f e = absurd (none-some f e)

makeable : (r c s : List ℕ) (rows cols seed : ℕ) → number_between 1 100 r ≡ Some rows → number_between 1 100 c ≡ Some cols
    → number_between 0 65536 s ≡ Some seed → IsMakeable rows cols seed
makeable r c s rows cols seed r_is c_is s_is =
    let rs = number_in_range 1 100 r rows r_is in
    let cs = number_in_range 1 100 c cols c_is in
    let ss = number_in_range 0 65536 s seed s_is in
    record { some_rows = rs.0; few_rows = rs.1; some_cols = cs.0; few_cols = cs.1; small_seed = ss.1 }

make_made : (words : List (List ℕ)) (f : Form) → make_form words ≡ Some f → IsSpelled (codes "make" ∷ words) f
make_made [] f e = absurd (none-some f e)
make_made (r ∷ []) f e = absurd (none-some f e)
make_made (r ∷ c ∷ []) f e = absurd (none-some f e)
make_made (r ∷ c ∷ s ∷ []) f e =
    option_and_then_some _ (number_between 1 100 r) f e λ x x_is e_x.
    option_and_then_some _ (number_between 1 100 c) f e_x λ y y_is e_y.
    option_and_then_some _ (number_between 0 65536 s) f e_y λ z z_is e_z.
    rw (
      number_spelled 1 100 r x (omega arith) x_is,
      number_spelled 1 100 c y (omega arith) y_is,
      number_spelled 0 65536 s z
          (omega arith) z_is,
    )
    (subst (λ (g : Form). IsSpelled (codes "make" ∷ decimal x ∷ decimal y ∷ decimal z ∷ []) g) (same_Some _ _ e_z)
    (record { spelled = refl; limits = makeable r c s x y z x_is y_is z_is }))
make_made (r ∷ c ∷ s ∷ t ∷ words) f e = absurd (none-some f e)

demo_made : (words : List (List ℕ)) (f : Form) → demo_form words ≡ Some f → IsSpelled (codes "demo" ∷ words) f
demo_made [] f e = absurd (none-some f e)
demo_made (r ∷ []) f e = absurd (none-some f e)
demo_made (r ∷ c ∷ []) f e = absurd (none-some f e)
demo_made (r ∷ c ∷ s ∷ []) f e = absurd (none-some f e)
demo_made (r ∷ c ∷ s ∷ b ∷ []) f e =
    option_and_then_some _ (number_between 1 100 r) f e λ x x_is e_x.
    option_and_then_some _ (number_between 1 100 c) f e_x λ y y_is e_y.
    option_and_then_some _ (number_between 0 65536 s) f e_y λ z z_is e_z.
    option_and_then_some _ (bound_of b) f e_z λ u u_is e_u.
    let bound = bound_made b u u_is in
    rw (
      number_spelled 1 100 r x (omega arith) x_is,
      number_spelled 1 100 c y (omega arith) y_is,
      number_spelled 0 65536 s z
          (omega arith) z_is,
      bound.0,
    )
    (subst (λ (g : Form). IsSpelled (codes "demo" ∷ decimal x ∷ decimal y ∷ decimal z ∷ digits u ∷ []) g) (same_Some _ _ e_u)
    (record { spelled = refl; limits = (makeable r c s x y z x_is y_is z_is, bound.1) }))
demo_made (r ∷ c ∷ s ∷ b ∷ t ∷ words) f e = absurd (none-some f e)

dissolve_made : (words : List (List ℕ)) (f : Form) → dissolve_form words ≡ Some f → IsSpelled (codes "dissolve" ∷ words) f
dissolve_made [] f e = absurd (none-some f e)
dissolve_made (list ∷ []) f e = absurd (none-some f e)
dissolve_made (list ∷ file ∷ []) f e =
    let parts = kept (is_polygon_list list && is_name file) (Some (Dissolve (polygons_in list) file)) f e in
    let tests = and_parts (is_polygon_list list) (is_name file) parts.0 in
    let made = list_made 1048575 1000 list (omega arith) tests.0 in
    subst (λ (g : Form). IsSpelled (codes "dissolve" ∷ list ∷ file ∷ []) g) (same_Some _ _ parts.1)
    (record { spelled = ap (λ (word : List ℕ). codes "dissolve" ∷ word ∷ file ∷ []) made.spelled; limits = (made.numbers, tests.1) })
dissolve_made (a ∷ b ∷ c ∷ words) f e = absurd (none-some f e)

build_made : (words : List (List ℕ)) (f : Form) → build_form words ≡ Some f → IsSpelled (codes "build" ∷ words) f
build_made [] f e = absurd (none-some f e)
build_made (file ∷ []) f e =
    let parts = kept (is_name file) (Some (Build file)) f e in
    subst (λ (g : Form). IsSpelled (codes "build" ∷ file ∷ []) g) (same_Some _ _ parts.1) (record { spelled = refl; limits = parts.0 })
build_made (a ∷ b ∷ words) f e = absurd (none-some f e)

pyramid_made : (words : List (List ℕ)) (f : Form) → pyramid_form words ≡ Some f → IsSpelled (codes "pyramid" ∷ words) f
pyramid_made [] f e = absurd (none-some f e)
pyramid_made (list ∷ []) f e = absurd (none-some f e)
pyramid_made (list ∷ file ∷ []) f e =
    let parts = kept (is_bound_list list && is_name file) (Some (Pyramid (bounds_in list) file)) f e in
    let tests = and_parts (is_bound_list list) (is_name file) parts.0 in
    let made = list_made (2 ^ 30) 16 list (omega arith) tests.0 in
    subst (λ (g : Form). IsSpelled (codes "pyramid" ∷ list ∷ file ∷ []) g) (same_Some _ _ parts.1)
    (record { spelled = ap (λ (word : List ℕ). codes "pyramid" ∷ word ∷ file ∷ []) made.spelled; limits = (made.numbers, tests.1) })
pyramid_made (a ∷ b ∷ c ∷ words) f e = absurd (none-some f e)

-- ---- all words

command_made : (command : List ℕ) (words : List (List ℕ)) (f : Form) → command_form command words ≡ Some f → IsSpelled (command ∷ words) f
command_made command words f e =
    elim (one_of (bytes_eq command (codes "simplify")) _ _ f e) [
      | inl h ↦ rw (same command (codes "simplify") h.0) (task_made tasks.Simplify words f h.1)
      | inr e1 ↦ elim (one_of (bytes_eq command (codes "layers")) _ _ f e1) [
        | inl h ↦ rw (same command (codes "layers") h.0) (task_made tasks.Layers words f h.1)
        | inr e2 ↦ elim (one_of (bytes_eq command (codes "check")) _ _ f e2) [
          | inl h ↦ rw (same command (codes "check") h.0) (task_made tasks.Check words f h.1)
          | inr e3 ↦ elim (one_of (bytes_eq command (codes "faces")) _ _ f e3) [
            | inl h ↦ rw (same command (codes "faces") h.0) (faces_made words f h.1)
            | inr e4 ↦ elim (one_of (bytes_eq command (codes "make")) _ _ f e4) [
              | inl h ↦ rw (same command (codes "make") h.0) (make_made words f h.1)
              | inr e5 ↦ elim (one_of (bytes_eq command (codes "demo")) _ _ f e5) [
                | inl h ↦ rw (same command (codes "demo") h.0) (demo_made words f h.1)
                | inr e6 ↦ elim (one_of (bytes_eq command (codes "dissolve")) _ _ f e6) [
                  | inl h ↦ rw (same command (codes "dissolve") h.0) (dissolve_made words f h.1)
                  | inr e7 ↦ elim (one_of (bytes_eq command (codes "build")) _ _ f e7) [
                    | inl h ↦ rw (same command (codes "build") h.0) (build_made words f h.1)
                    | inr e8 ↦ elim (one_of (bytes_eq command (codes "pyramid")) _ _ f e8) [
                      | inl h ↦ rw (same command (codes "pyramid") h.0) (pyramid_made words f h.1)
                      | inr e9 ↦ absurd (none-some f e9)
                    ]
                  ]
                ]
              ]
            ]
          ]
        ]
      ]
    ]

form_made : (words : List (List ℕ)) (f : Form) → form_of words ≡ Some f → IsSpelled words f
form_made [] f e = absurd (none-some f e)
form_made (command ∷ words) f e = command_made command words f e

-- ---- what spells a form is that form

bounded_found : (task : Task) (options : Options) (bound : ℤ) (names : List (List ℕ)) → IsBound bound
    → bounded_form task options (digits bound ∷ names) ≡ named_form task options bound names
bounded_found task options bound names b = rw (bound_found bound b) refl

task_found : (task : Task) (hold : Bool) (weights : Option Scales) (bound : ℤ) (names : List (List ℕ)) → AreWeights weights → IsBound bound
    → task_form task (options_words (record { hold = hold; weights = weights }) ++ digits bound ∷ names) ≡ named_form task
    (record { hold = hold; weights = weights }) bound names
task_found task true None bound names w b =
    rw (not_word bound (codes "--weights") b refl) (bounded_found task (record { hold = true; weights = None }) bound names b)
task_found task false None bound names w b =
    rw (not_word bound (codes "--hold") b refl, not_word bound (codes "--weights") b refl)
    (bounded_found task (record { hold = false; weights = None }) bound names b)
task_found task true (Some s) bound names w b =
    rw (weights_found s w) (bounded_found task (record { hold = true; weights = Some s }) bound names b)
task_found task false (Some s) bound names w b =
    rw (weights_found s w) (bounded_found task (record { hold = false; weights = Some s }) bound names b)

-- where both tests pass, this form is found
both_pass : (list name : Bool) (f : Form) → list ≡ true → name ≡ true → cond (list && name) (Some f) None ≡ Some f
both_pass list name f h k = rw (h, k) refl

form_found : (f : Form) → IsWithinLimits f → form_of (spelling f) ≡ Some f
form_found (Simplify options bound file) h = task_found tasks.Simplify options.hold options.weights bound (file ∷ []) h.0 h.1 ∙ rw h.2 refl
form_found (Layers options bound file) h = task_found tasks.Layers options.hold options.weights bound (file ∷ []) h.0 h.1 ∙ rw h.2 refl
form_found (Check options bound file out cert) h =
    task_found tasks.Check options.hold options.weights bound (file ∷ out ∷ cert ∷ []) h.0 h.1 ∙ rw h.2 refl
form_found (Faces file) h = rw h refl
form_found (Make rows cols seed) h =
    rw (
      number_found 1 100 rows (omega arith) h.some_rows h.few_rows,
      number_found 1 100 cols (omega arith) h.some_cols h.few_cols,
      number_found 0 65536 seed (omega arith) (omega arith) h.small_seed,
    ) refl
form_found (Demo rows cols seed bound) h =
    rw (
      number_found 1 100 rows (omega arith) h.0.some_rows h.0.few_rows,
      number_found 1 100 cols (omega arith) h.0.some_cols h.0.few_cols,
      number_found 0 65536 seed (omega arith) (omega arith) h.0.small_seed,
      bound_found bound h.1,
    ) refl
form_found (Dissolve polygons file) h =
    both_pass (is_polygon_list (list_word polygons)) (is_name file) (Dissolve (polygons_in (list_word polygons)) file)
    (list_found 1048575 1000 polygons (omega arith) h.0) h.1
    ∙ ap (λ (ns : List ℕ). Some (Dissolve ns file)) (listed_found 1048575 1000 polygons (omega arith) h.0)
form_found (Build file) h = rw h refl
form_found (Pyramid bounds file) h =
    both_pass (is_bound_list (list_word bounds)) (is_name file) (Pyramid (bounds_in (list_word bounds)) file)
    (list_found (2 ^ 30) 16 bounds (omega arith) h.0) h.1
    ∙ ap (λ (ns : List ℕ). Some (Pyramid ns file)) (listed_found (2 ^ 30) 16 bounds (omega arith) h.0)

-- the form of words is the one that they spell
pub form_spells : (words : List (List ℕ)) (f : Option Form) → f ≡ form_of words → Spells words f
form_spells words None e = λ f limits is. none-some f (e ∙ ap form_of is ∙ form_found f limits)
form_spells words (Some f) e = let made = form_made words f (sym e) in (made.spelled, made.limits)

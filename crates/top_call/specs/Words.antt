-- What the words of a command line ask for.
use Rattle.std.specs.Prelude.{ℕ, ◌+◌, ◌-◌, ◌*◌, ◌^◌, ℤ, pos, Bool, true, false, not, List, [], ◌∷◌, ◌&&◌, ◌||◌, ◌==◌, nat_le, nat_lt}
use Rattle.std.specs.Prelude.{length, slice_index, if◌then◌else◌, Option, Some, None, codes, option_and_then}
use Rattle.std.specs.Borrow.{Bor}
use Rattle.std.specs.Char.{is_ascii_digit}
use Rattle.std.specs.List.{slice_split}
use Rattle.std.specs.Option.{option_map, option_map_or}
use Rattle.std.specs.Str.{bytes_eq}
use Rattle.grid_exact.specs.Weights.{Scales}
use Rattle.top_call.specs.declared.forms.Options.{Options}
use Rattle.top_call.specs.declared.words.Task.{Task}
use Rattle.top_call.specs.declared.words.Task.TheVariants as tasks

-- ---- numbers

-- the number that digits spell behind a number, none where one of these is no digit
abbrev pub read_digits : ℕ → List ℕ → Option ℕ
read_digits n [] = Some n
read_digits n (c ∷ cs) = if is_ascii_digit c then read_digits (10 * n + (c - 48)) cs else None

-- the number, where it is from `least` to `most`
abbrev pub between : ℕ → ℕ → Option ℕ → Option ℕ
between least most None = None
between least most (Some n) = if nat_le least n && nat_le n most then Some n else None

-- the number from `least` to `most` that a word spells in decimal digits with no leading zero
abbrev pub number_between : ℕ → ℕ → List ℕ → Option ℕ
number_between least most word =
    if (length word == 0) || (nat_lt 1 (length word) && (slice_index word 0 == 48)) then None else between least most (read_digits 0 word)

-- the bound that a word spells
abbrev pub bound_of : List ℕ → Option ℤ
bound_of word = option_map pos (number_between 0 (2 ^ 30) word)

-- the weights that two words spell
abbrev pub weights_of : List ℕ → List ℕ → Option Scales
weights_of wx wy =
    option_and_then (λ x. option_map (λ y. record { x = pos x; y = pos y }) (number_between 1 65536 wy)) (number_between 1 65536 wx)

-- ---- lists of numbers

-- the words between the commas of a list
abbrev pub words_between : List ℕ → List (List ℕ)
words_between list = slice_split (λ b. b == 44) list

-- the words of what is left of a list, none where nothing is
abbrev pub words_left : Option (Bor (List ℕ)) → List (List ℕ)
words_left rest = option_map_or (λ list. words_between list.now) rest []

-- there is a number, and it passes the test
abbrev pub is_some_number : (ℕ → Bool) → Option ℕ → Bool
is_some_number test None = false
is_some_number test (Some n) = test n

-- the words spell numbers that rise from `least` on and are at most `most`, and are no more than there is room for
abbrev pub are_rising : ℕ → ℕ → ℕ → List (List ℕ) → Bool
are_rising most least room [] = true
are_rising most least room (word ∷ words) =
    is_some_number (λ n. nat_lt 0 room && are_rising most (n + 1) (room - 1) words) (number_between least most word)

-- a list of rising numbers, each at most `most`: one, and no more than there is room for
abbrev pub is_list : ℕ → ℕ → List ℕ → Bool
is_list most room list = are_rising most 0 room (words_between list)

-- the number, if there is one, before others
abbrev pub number_then : Option ℕ → List ℕ → List ℕ
number_then None numbers = numbers
number_then (Some n) numbers = n ∷ numbers

-- the numbers that words spell, each at most `most`
abbrev pub numbers_in : ℕ → List (List ℕ) → List ℕ
numbers_in most [] = []
numbers_in most (word ∷ words) = number_then (number_between 0 most word) (numbers_in most words)

-- the numbers that a list has, each at most `most`
abbrev pub numbers_of : ℕ → List ℕ → List ℕ
numbers_of most list = numbers_in most (words_between list)

-- a list of 1 to 1,000 rising numbers of polygons
abbrev pub is_polygon_list : List ℕ → Bool
is_polygon_list list = is_list 1048575 1000 list

-- the numbers of polygons that a list has
abbrev pub polygons_in : List ℕ → List ℕ
polygons_in list = numbers_of 1048575 list

-- a list of 1 to 16 rising bounds
abbrev pub is_bound_list : List ℕ → Bool
is_bound_list list = is_list (2 ^ 30) 16 list

-- the bounds that a list has, in whole units
abbrev pub bounds_in : List ℕ → List ℕ
bounds_in list = numbers_of (2 ^ 30) list

-- ---- names of texts

abbrev pub is_name : List ℕ → Bool
is_name word = not (length word == 0)

-- the name is that of standard input
abbrev pub is_standard : List ℕ → Bool
is_standard word = bytes_eq word (codes "-")

-- names, of which at most one is that of standard input
abbrev pub are_names : List ℕ → List ℕ → List ℕ → Bool
are_names file out cert =
    is_name file && is_name out && is_name cert
    && not (is_standard file && is_standard out) && not (is_standard file && is_standard cert) && not (is_standard out && is_standard cert)

-- ---- forms

-- the forms of a command line
pub data Form : Type 0 where
  Simplify : (options : Options) (bound : ℤ) (file : List ℕ) → Form
  Layers : (options : Options) (bound : ℤ) (file : List ℕ) → Form
  Check : (options : Options) (bound : ℤ) (file out cert : List ℕ) → Form
  Faces : (file : List ℕ) → Form
  Make : (rows cols seed : ℕ) → Form
  Demo : (rows cols seed : ℕ) (bound : ℤ) → Form
  Dissolve : (polygons file : List ℕ) → Form
  Build : (file : List ℕ) → Form
  Pyramid : (bounds file : List ℕ) → Form

-- what stands behind E: FILE, or FILE OUT CERT
abbrev pub named_form : Task → Options → ℤ → List (List ℕ) → Option Form
named_form tasks.Simplify options bound (file ∷ []) = if is_name file then Some (Simplify options bound file) else None
named_form tasks.Layers options bound (file ∷ []) = if is_name file then Some (Layers options bound file) else None
named_form tasks.Check options bound (file ∷ out ∷ cert ∷ []) =
    if are_names file out cert then Some (Check options bound file out cert) else None
named_form task options bound names = None

-- what stands behind the options: E and names
abbrev pub bounded_form : Task → Options → List (List ℕ) → Option Form
bounded_form task options [] = None
bounded_form task options (bound ∷ names) = option_and_then (λ e. named_form task options e names) (bound_of bound)

-- what stands behind `--weights`: WX WY, E and names
abbrev pub weighed_form : Task → Bool → List (List ℕ) → Option Form
weighed_form task hold (wx ∷ wy ∷ words) =
    option_and_then (λ w. bounded_form task (record { hold = hold; weights = Some w }) words) (weights_of wx wy)
weighed_form task hold words = None

-- what stands behind `--hold`, or behind the command: `--weights` and more, or E and names
abbrev pub held_form : Task → Bool → List (List ℕ) → Option Form
held_form task hold [] = None
held_form task hold (word ∷ words) =
    if bytes_eq word (codes "--weights") then weighed_form task hold words
    else bounded_form task (record { hold = hold; weights = None }) (word ∷ words)

-- what stands behind the command: `--hold` and more, or the same without it
abbrev pub task_form : Task → List (List ℕ) → Option Form
task_form task [] = None
task_form task (word ∷ words) = if bytes_eq word (codes "--hold") then held_form task true words else held_form task false (word ∷ words)

-- `faces FILE`
abbrev pub faces_form : List (List ℕ) → Option Form
faces_form (file ∷ []) = if is_name file then Some (Faces file) else None
faces_form words = None

-- `make R C SEED`
abbrev pub make_form : List (List ℕ) → Option Form
make_form (rows ∷ cols ∷ seed ∷ []) =
    option_and_then (λ r. option_and_then (λ c. option_and_then (λ s. Some (Make r c s))
    (number_between 0 65536 seed)) (number_between 1 100 cols)) (number_between 1 100 rows)
make_form words = None

-- `demo R C SEED E`
abbrev pub demo_form : List (List ℕ) → Option Form
demo_form (rows ∷ cols ∷ seed ∷ bound ∷ []) =
    option_and_then (λ r. option_and_then (λ c. option_and_then (λ s. option_and_then (λ e. Some (Demo r c s e))
    (bound_of bound)) (number_between 0 65536 seed)) (number_between 1 100 cols)) (number_between 1 100 rows)
demo_form words = None

-- `dissolve LIST FILE`
abbrev pub dissolve_form : List (List ℕ) → Option Form
dissolve_form (list ∷ file ∷ []) = if is_polygon_list list && is_name file then Some (Dissolve (polygons_in list) file) else None
dissolve_form words = None

-- `build FILE`
abbrev pub build_form : List (List ℕ) → Option Form
build_form (file ∷ []) = if is_name file then Some (Build file) else None
build_form words = None

-- `pyramid BOUNDS FILE`
abbrev pub pyramid_form : List (List ℕ) → Option Form
pyramid_form (list ∷ file ∷ []) = if is_bound_list list && is_name file then Some (Pyramid (bounds_in list) file) else None
pyramid_form words = None

-- the form of the words behind a command
abbrev pub command_form : List ℕ → List (List ℕ) → Option Form
command_form command words =
    if bytes_eq command (codes "simplify") then task_form tasks.Simplify words
    else if bytes_eq command (codes "layers") then task_form tasks.Layers words
    else if bytes_eq command (codes "check") then task_form tasks.Check words
    else if bytes_eq command (codes "faces") then faces_form words
    else if bytes_eq command (codes "make") then make_form words
    else if bytes_eq command (codes "demo") then demo_form words
    else if bytes_eq command (codes "dissolve") then dissolve_form words
    else if bytes_eq command (codes "build") then build_form words
    else if bytes_eq command (codes "pyramid") then pyramid_form words
    else None

-- the form of the words
abbrev pub form_of : List (List ℕ) → Option Form
form_of [] = None
form_of (command ∷ words) = command_form command words

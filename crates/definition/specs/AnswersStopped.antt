-- THE LIMIT OF CONSULTS, BY COMPUTATION: 01's printed example, which needs seven consults, asked with one limit after another; and the order
-- of 42, 53 and 7 at one and the same path.
use Rattle.std.specs.Prelude.{◌≡◌, ℕ, List, [], ◌∷◌, length, replicate, refl}
use Prim.Native.Char.{code}
use Rattle.definition.specs.Text.{Text, text}
use Rattle.definition.specs.Listing.{file_entry}
use Rattle.definition.specs.Settings.{settings_of}
use Rattle.definition.specs.Ask.{Step, go, stop, answer, log, within, seen}
use Rattle.definition.specs.Manifest.{too_many, refused, End, stopped, end_number, view}
use Rattle.definition.specs.Walk.{nearest}
use Rattle.definition.specs.Called.{called, definition_computes}
use Rattle.definition.specs.AnswersPrinted.{tree, settings, printed_computes}

-- the printed example within a limit, with so many bytes of result: the number of the call, and how many consults it reports
limited : ℕ → ℕ → ℕ × ℕ
limited limit result =
    let left = called (record { listing = tree; settings = settings; start = text "/p"; specifier = text "mat/steel"; limit = limit })
    (record { result = result; numbers = 20; list = 160; work = 32768 })
    in
    (left.number, left.consults)

-- the limits 0, 1, 6, 7, 8 and the two that have a name; then a result text that is too short
pub limits : List (ℕ × ℕ)
limits = limited 0 40 ∷ limited 1 40 ∷ limited 6 40 ∷ limited 7 40 ∷ limited 8 40 ∷ limited 512 40 ∷ limited 18777 40 ∷ limited 7 31 ∷ limited 6 31 ∷ []

pub limits_say : limits ≡ (53, 0) ∷ (53, 1) ∷ (53, 6) ∷ (0, 7) ∷ (0, 7) ∷ (0, 7) ∷ (0, 7) ∷ (20, 7) ∷ (53, 6) ∷ []
unfolding definition_computes printed_computes limited limits
limits_say = refl

-- a stopped call leaves zeros, whatever it had written
stopped_result : (called (record { listing = tree; settings = settings; start = text "/p"; specifier = text "mat/steel"; limit = 6 })
    (record { result = 3; numbers = 4; list = 5; work = 32768 })
    ).list ≡ 0 ∷ 0 ∷ 0 ∷ 0 ∷ 0 ∷ []
unfolding definition_computes printed_computes
stopped_result = refl

-- the nearest manifest of a directory, where every path is a manifest with these bytes: the number of the end (100 where there is none) and
-- how many consults were made
ending : {A : Type 0} → Step End A → ℕ
ending (go a) = 100
ending (stop e) = end_number e

sought : Text → Text → ℕ → ℕ × ℕ
sought directory contents limit =
    let L = seen (view (settings_of settings)) (λ p. file_entry contents) in
    let t = within (stopped (refused too_many)) limit (nearest (settings_of settings) (directory ∷ [])) in
    (ending (answer L t), length (log L t))

-- over a limit by its depth
seventeen : Text
seventeen = text "[[[[[[[[[[[[[[[[["

-- the path is built before it is asked about: 42 comes before 53, and 53 before what the manifest gives
pub orders : List (ℕ × ℕ)
orders =
    sought (replicate 2036 (code "a")) (text "}") 0
    ∷ sought (text "/p") (text "}") 0
    ∷ sought (text "/p") (text "}") 1
    ∷ sought (text "/p") seventeen 0
    ∷ sought (text "/p") seventeen 1
    ∷ sought (text "/p") (text "{}") 1
    ∷ []

pub orders_say : orders ≡ (42, 0) ∷ (53, 0) ∷ (7, 1) ∷ (53, 0) ∷ (40, 1) ∷ (100, 1) ∷ []
unfolding definition_computes printed_computes ending sought seventeen orders
orders_say = refl

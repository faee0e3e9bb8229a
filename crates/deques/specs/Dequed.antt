-- A deque, and the sixteen of a run, and how they hold jobs. Functions that are no entries cite this file.
--   jobs_from jobs at n   == the n jobs from place `at` on, the bottom one first
--   Stacked deque d       == a deque holds the jobs d, within its places; a job stands at a place not above its number
--   Fitting, OnBottom     == job j goes on the bottom of a deque whose bottom job is of smaller number; it has gone there
--   BottomTaken, TopTaken == what taking the bottom job of a deque, and the top one, gives and leaves
--   empty                 == a deque without a job, as it is made
--   no_deque, deque_in deques w == what stands outside of an array of deques; deque w
--   Dequed deques ds      == sixteen deques hold the jobs ds
--   Pushing, Pushed       == job j goes on the bottom of deque w, whose bottom job is of smaller number; it has gone there
--   TookBottom, TookTop   == what taking the bottom job of deque w, and the top of victim v's deque, gives and leaves
use Rattle.std.specs.Prelude.{ℕ, zero, suc, ◌+◌, ◌≤◌, ◌<◌, ◌≡◌, Result, Bool, List, [], ◌∷◌, length, get_or, set, replicate}
use Rattle.runs.specs.declared.miss.Miss.{Miss}
use Rattle.runs.specs.declared.worker.Worker.{Worker}
use Rattle.runs.specs.Turn.{take_bottom}
use Rattle.runs.specs.Steal.{drop_top, take_top}
use Rattle.deques.specs.declared.Deque.{Deque}

abbrev pub jobs_from : List ℕ → ℕ → ℕ → List ℕ
jobs_from jobs at zero = []
jobs_from jobs at (suc n) = get_or jobs (at + n) 0 ∷ jobs_from jobs at n

pub record Stacked (deque : Deque) (d : List ℕ) : Type 0 where
  pub long : length deque.jobs ≡ 256
  pub holds : jobs_from deque.jobs deque.top deque.len ≡ d
  pub low : (i : ℕ) → i < deque.len → deque.top + i ≤ get_or deque.jobs (deque.top + i) 0
  pub room : deque.top + deque.len ≤ 255

pub record Fitting (j : ℕ) (deque : Deque) (d : List ℕ) : Type 0 where
  pub stacked : Stacked deque d
  pub small : j < 255
  pub below : (x : ℕ) (e : List ℕ) → d ≡ x ∷ e → x < j

abbrev pub OnBottom : ℕ → Deque → List ℕ → Type 0
OnBottom j deque d = Stacked deque (j ∷ d)

abbrev pub BottomTaken : Worker → Deque → List ℕ → Type 0
BottomTaken worker deque d = (worker ≡ (take_bottom d).worker) × Stacked deque (take_bottom d).deque

abbrev pub TopTaken : Bool → Result ℕ Miss → Deque → List ℕ → Type 0
TopTaken held taken deque d = (taken ≡ take_top d held) × Stacked deque (drop_top d)

abbrev pub empty : Deque
empty = record { top = 0; len = 0; jobs = replicate 256 0 }

abbrev pub no_deque : Deque
no_deque = record { top = 0; len = 0; jobs = [] }

abbrev pub deque_in : List Deque → ℕ → Deque
deque_in deques w = get_or deques w no_deque

pub record Dequed (deques : List Deque) (ds : List (List ℕ)) : Type 0 where
  pub sixteen : length ds ≡ 16
  pub long : length deques ≡ 16
  pub holds : (w : ℕ) → w < 16 → Stacked (deque_in deques w) (get_or ds w [])

pub record Pushing (w j : ℕ) (deques : List Deque) (ds : List (List ℕ)) : Type 0 where
  pub dequed : Dequed deques ds
  pub known : w < 16
  pub small : j < 255
  pub below : (x : ℕ) (d : List ℕ) → get_or ds w [] ≡ x ∷ d → x < j

abbrev pub Pushed : ℕ → ℕ → List Deque → List (List ℕ) → Type 0
Pushed w j deques ds = Dequed deques (set ds w (j ∷ get_or ds w []))

abbrev pub TookBottom : ℕ → Worker → List Deque → List (List ℕ) → Type 0
TookBottom w worker deques ds = (worker ≡ (take_bottom (get_or ds w [])).worker) × Dequed deques (set ds w (take_bottom (get_or ds w [])).deque)

abbrev pub TookTop : ℕ → Bool → Result ℕ Miss → List Deque → List (List ℕ) → Type 0
TookTop v held taken deques ds = (taken ≡ take_top (get_or ds v []) held) × Dequed deques (set ds v (drop_top (get_or ds v [])))

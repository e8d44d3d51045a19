-- What the intervals say of a column.
--   lookup_available          the parent of an available column
--   outside_free              outside every interval: the column is extracted, or no activated row has a path there
--   outside_extracted         which of the two
--   won_outside               a new row wins such a column exactly if it is not extracted and the row has a path there
--   outside_between           it then lies after the intervals of lower rows and before those of higher rows
use Rattle.std.specs.Prelude.{◌≡◌, false, not, ◌&&◌, List, [], ◌∷◌, length}
use Rattle.std.proofs.Math.Path.{refl}
use Rattle.std.proofs.Math.Bool.{true}
use Prim.Native.Nat.{ℕ, suc, ◌≤◌, ◌<◌}
use Rattle.std.proofs.Common.{le_refl, arith}
use borrow.Author.Tests.{eq-eqb, eqb-true}
use Rattle.std.proofs.Math.Dec.{eqb}
use Rattle.definitions.specs.Limits.{no_path}
use Rattle.definitions.specs.Metres.{IsNumber}
use Rattle.definitions.specs.Lists.{mem, every, Every}
use Rattle.definitions.specs.Network.{Rectangle}
use Rattle.definitions.specs.Monge.{Monge}
use Rattle.definitions.specs.Best.{Best, nobody, by}
use Rattle.definitions.specs.Intervals.{Interval, interval, runs}
use Rattle.definitions.specs.Model.{Activation, Model, parent, available, intervals}
use Rattle.definitions.proofs.Laws.Members.{every_is, every_imp}
use Rattle.definitions.proofs.Laws.RunProofs.{tag, tag_is, lookup, lookup_runs, Longest, runs_longest}
use Rattle.logic.specs.Tests.{clash, and_both, Truth, holds, fails, truth, Equal, equal, differ, equality}
use Rattle.heap_laws.specs.Parents.{row_at}
use Rattle.heap_laws.proofs.Parents.{parent_nobody, parent_none, available_parent}
use Rattle.heap_laws.specs.Won.{won}
use Rattle.heap_laws.proofs.Won.{won_nowhere, won_path, won_free, free_above, free_below}
use Rattle.heap_laws.specs.Sound.{Sound}
use Rattle.heap_laws.proofs.Sound.{extracted_lost, won_available}
use Rattle.heap_laws.specs.ColumnParents.{Beside}

module _ (e : Rectangle) (rows cols : ℕ) (m : Model) (c : ℕ) (hc : c < cols) where
  pub lookup_available : lookup c (intervals e cols m) ≡ tag (available e m c)
  unfolding intervals
  lookup_available = lookup_runs (available e m) 0 cols c (omega arith) (omega arith)

  pub outside_free : mem c m.extracted ≡ false → lookup c (intervals e cols m) ≡ 0 → parent e m.activated c ≡ nobody
  unfolding available tag
  outside_free t h = go (parent e m.activated c) refl
    where
      go : (x : Best) → parent e m.activated c ≡ x → parent e m.activated c ≡ nobody
      go nobody q = q
      go (by p s) q = let z : tag (available e m c) ≡ suc p = simp t (rw q) in absurd (omega (arith, lookup_available))

  -- so whether it is extracted can be read from the activated rows
  pub outside_extracted : Sound e rows cols m → lookup c (intervals e cols m) ≡ 0 → mem c m.extracted ≡ not (every (λ a. eqb (e a.row c) no_path) m.activated)
  unfolding every
  outside_extracted g h = go (truth (mem c m.extracted)) (truth (every (λ a. eqb (e a.row c) no_path) m.activated))
    where
      no_path_there : (a : Activation) → eqb (e a.row c) no_path ≡ true → e a.row c ≡ no_path
      no_path_there a t = eqb-true (e a.row c) no_path t

      go : Truth (mem c m.extracted) → Truth (every (λ a. eqb (e a.row c) no_path) m.activated) → mem c m.extracted ≡ not (every (λ a. eqb (e a.row c) no_path) m.activated)
      go (holds t) (fails u) = rw (t, u)
      go (holds t) (holds u) =
          absurd (rw (parent_none e m.activated c (every_is (λ a. eqb (e a.row c) no_path) (λ a. e a.row c ≡ no_path) no_path_there m.activated u)) at (g.low c t))
      go (fails t) (holds u) = rw (t, u)
      go (fails t) (fails u) = absurd (clash (all_shut m.activated (parent_nobody e m.activated c (outside_free t h))) u)
        where
          all_shut : (xs : List Activation) → ((i : ℕ) → i < length xs → e (row_at xs i) c ≡ no_path) → every (λ a. eqb (e a.row c) no_path) xs ≡ true
          all_shut [] f = refl
          all_shut (a ∷ xs) f = and_both (eqb (e a.row c) no_path) (every (λ a. eqb (e a.row c) no_path) xs)
              (eq-eqb (e a.row c) no_path (f 0 (omega arith))) (all_shut xs (λ i l. f (suc i) (omega arith)))

  module _ (g : Sound e rows cols m) (r v : ℕ) (high : m.floor ≤ v) where
    pub won_outside : lookup c (intervals e cols m) ≡ 0 → won e m.activated r v c ≡ (not (mem c m.extracted) && not (eqb (e r c) no_path))
    won_outside h = go (truth (mem c m.extracted)) (equality (e r c) no_path)
      where
        go : Truth (mem c m.extracted) → Equal (e r c) no_path → won e m.activated r v c ≡ (not (mem c m.extracted) && not (eqb (e r c) no_path))
        go (holds t) _ = rw t (extracted_lost e rows cols m g r v c high t)
        go (fails t) (equal u q) = rw (t, u) (won_nowhere e m.activated r v c q)
        go (fails t) (differ u n) = rw (t, u) (won_free e m.activated r v c n (outside_free t h))

    pub outside_between : Monge e rows cols → r < rows → lookup c (intervals e cols m) ≡ 0 → won e m.activated r v c ≡ true → Every (Beside r c) (intervals e cols m)
    unfolding intervals
    outside_between ok hr h w = every_imp (Longest (available e m) 0 cols) (Beside r c) (runs (available e m) 0 cols) one (runs_longest (available e m) 0 cols)
      where
        path : IsNumber (e r c)
        path = won_path e m.activated r v c w

        free : parent e m.activated c ≡ nobody
        free = outside_free (won_available e rows cols m g r v c high w) h

        owner : (p d : ℕ) → tag (available e m d) ≡ suc p → (s : ℕ) × (parent e m.activated d ≡ by p s)
        owner p d t = let x = tag_is (available e m d) p t in (x.0, available_parent e m d p x.0 x.1)

        one : (u : Interval) → Longest (available e m) 0 cols u → Beside r c u
        one (interval p f l) k =
            let x = owner p l (k.owned l k.ordered (le_refl l)) in
            let y = owner p f (k.owned f (le_refl f) k.ordered) in (
              free_above e rows cols ok m.activated g.in_rows r v hr c hc path free l (omega (arith, k.high)) p x.0 x.1,
              free_below e rows cols ok m.activated g.in_rows r v hr c hc path free f (omega (arith, k.ordered, k.high)) p y.0 y.1,
            )

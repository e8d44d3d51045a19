-- One block in the labelling: invariants (a), (b) and (d), kept by an activation, by an extraction and by time.
--   fresh_fine later              what holds of its trace
--   inserted_most_lem             the intervals that all its calls can insert
--   activate_good extract_good    what holds of a block with its trace
--   welcome                       no activation is refused
--   activate_block activate_extracted extract_length
--   extracted_bound inserted_bound    how many columns, how many intervals
use Rattle.std.specs.Prelude.{◌≡◌, true, false, cond, ◌||◌, ℕ, zero, suc, ◌+◌, ◌*◌, ◌≤◌, ◌<◌, eqb, get_or, length}
use Rattle.std.proofs.Math.Path.{refl, sym}
use Rattle.std.proofs.Common.{ap, ◌∙◌, le_refl, mul-le-mul_right, arith, length-append}
use Rattle.std.proofs.Math.Option.{Option, none, some}
use mathlib.Core.List.{List, [], ◌∷◌, ◌++◌, append-nil}
use Rattle.std.proofs.Math.Nat.{mul-le-mul_left}
use borrow.Author.Tests.{eqb-true, lt-leb, le-ltb}
use Rattle.definitions.specs.Limits.{max_label}
use Rattle.definitions.specs.Lists.{mem}
use Rattle.definitions.specs.Network.{Rectangle, RouteArc}
use Rattle.definitions.specs.Monge.{Monge, closed}
use Rattle.definitions.specs.Blocks.{Block}
use Rattle.definitions.specs.Best.{nobody, by, lesser, least, least_from, Lowest}
use Rattle.definitions.proofs.Laws.LeastLaws.{found_is}
use Rattle.definitions.specs.Model.{Activation, Model, through, parent, available, is_activated, judge, step, activate, extract, Trace, extend}
use Rattle.definitions.specs.Labelling.{BlockState, activation, extraction, fresh_block, apply, least_of, place_of, activate_at, activate_vertex, Settled, settled_at, label_of}
use Rattle.logic.specs.Tests.{clash, Truth, holds, fails, truth, Equal, equal, differ, equality}
use Rattle.basics.specs.ListLaws.{every_snoc, mem_snoc}
use Rattle.heap_laws.specs.Lesser.{From}
use Rattle.heap_laws.proofs.Lesser.{from_lesser}
use Rattle.heap_laws.proofs.Parents.{parent_snoc, through_from, available_parent}
use Rattle.heap_laws.proofs.ModelCalls.{step_activate, step_extract}
use Rattle.heap_laws.proofs.Sound.{fresh_sound, step_sound, activated_few, extracted_few}
use Rattle.heap_laws.proofs.Extract.{extract_here, extract_other}
use Rattle.heap_laws.proofs.TraceCounts.{extend_few}
use Rattle.labelling_laws.proofs.VertexPlaces.{place_in}
use Rattle.labelling_laws.specs.Activated.{activated_one, activated_by}
use Rattle.labelling_laws.proofs.Activated.{activated_by_snoc, not_activated}
use Rattle.labelling_laws.specs.OneBlock.{Reached, Fine, inserted_most, FewClosed, Good, Welcome}

pub fresh_fine : (b : Block) → Fine b [] [] 0 (fresh_block b).trace
unfolding fresh_block activated_by available parent least mem
fresh_fine b = record {
  sound = fresh_sound b.lengths (length b.rows) (length b.cols);
  rows_are = refl;
  floor = le_refl 0;
  ahead = λ c l. tt;
  behind = λ c h. absurd (clash h refl);
  done = tt;
  few = omega arith;
}

-- more is settled, and sums have grown
pub later : (b : Block) (old xs ys : List Settled) (level level' : ℕ) (t : Trace) → level ≤ level'
    → ((v l : ℕ) → label_of v xs ≡ some l → label_of v ys ≡ some l)
    → ((c : ℕ) → c < length b.cols → From level' (available b.lengths t.model c))
    → Fine b old xs level t → Fine b old ys level' t
later b old xs ys level level' t l mono from f = record {
  sound = f.sound;
  rows_are = f.rows_are;
  floor = omega arith;
  ahead = from;
  behind = λ c h. let r = f.behind c h in record { label = r.label; is = mono (get_or b.cols c 0) r.label r.is; near = omega arith; least = r.least };
  done = f.done;
  few = f.few;
}

-- ---- a call

module _ (b : Block) (monge : Monge b.lengths (length b.rows) (length b.cols)) (old xs : List Settled) (level : ℕ) (t : Trace) (f : Fine b old xs level t) where
  abbrev e : Rectangle
  e = b.lengths

  abbrev m : Model
  m = t.model

  -- a row is activated at the label `level`
  activate_fine : (r : ℕ) → r < length b.rows → is_activated r m.activated ≡ false → level ≤ max_label → (now : List Settled)
      → activated_by b.rows now ≡ activated_by b.rows old ++ record { row = r; label = level } ∷ []
      → Fine b now xs level (extend e (length b.rows) (length b.cols) t (activation r level))
  unfolding extend activate available
  activate_fine r hr fresh_row top now grown =
      let does = step_activate e (length b.rows) (length b.cols) m (activation r level)
      (record { kind_is = refl; row_in_lem = hr; row_new = fresh_row; high = f.floor; limited = top }) in
      record {
        sound = step_sound e (length b.rows) (length b.cols) m (activation r level) f.sound;
        rows_are = rw does (ap (λ (rs : List Activation). rs ++ record { row = r; label = level } ∷ []) f.rows_are ∙ sym grown);
        floor = rw does f.floor;
        ahead = λ c l. rw (does, parent_snoc) (ahead c (f.ahead c l) (truth (mem c m.extracted)));
        behind = λ c h. rw does (behind c (rw does at h));
        done = every_snoc (λ a. a.code ≡ 0) t.answers _ f.done (rw does);
        few = extend_few e (length b.rows) (length b.cols) monge t (activation r level) f.sound f.few;
      }
    where
      a : Activation
      a = record { row = r; label = level }

      ahead : (c : ℕ) → From level (available e m c) → Truth (mem c m.extracted)
          → From level (cond (mem c m.extracted) nobody (lesser (parent e m.activated c) (through e c a)))
      ahead c h (holds u) = simp u tt
      ahead c h (fails u) = simp u (from_lesser level (parent e m.activated c) (through e c a) (simp u at h) (through_from e c a level (le_refl level)))

      behind : (c : ℕ) → mem c m.extracted ≡ true → Reached xs level (get_or b.cols c 0) (parent e (m.activated ++ a ∷ []) c)
      behind c h = let o = f.behind c h in record {
        label = o.label;
        is = o.is;
        near = o.near;
        least = rw parent_snoc (from_lesser o.label (parent e m.activated c) (through e c a) o.least (through_from e c a o.label o.near));
      }

  -- a column of least sum `level` is extracted, and its vertex has a label
  extract_fine : (c : ℕ) → least_from (available e m) 0 (length b.cols) ≡ by c level
      → (l : ℕ) → label_of (get_or b.cols c 0) xs ≡ some l → l ≤ level
      → Fine b old xs level (extend e (length b.rows) (length b.cols) t extraction)
  unfolding extend extract
  extract_fine c here l label near =
      let does = step_extract e (length b.rows) (length b.cols) m extraction refl in
      record {
        sound = step_sound e (length b.rows) (length b.cols) m extraction f.sound;
        rows_are = rw (does, here) f.rows_are;
        floor = rw (does, here) (le_refl level);
        ahead = λ j l. rw (does, here) (ahead j (f.ahead j l) (equality j c));
        behind = λ j h. rw (does, here) (behind j (truth (mem j m.extracted)) (rw mem_snoc at (rw (does, here) at h)));
        done = every_snoc (λ a. a.code ≡ 0) t.answers _ f.done (rw (does, here));
        few = extend_few e (length b.rows) (length b.cols) monge t extraction f.sound f.few;
      }
    where
      found : Lowest (available e m) 0 (length b.cols) c level
      found = rw here at (found_is (available e m) 0 (length b.cols))

      ahead : (j : ℕ) → From level (available e m j) → Equal j c → From level (available e (extract m (by c level)) j)
      ahead j h (equal t q) = rw (q, extract_here e m c level) tt
      ahead j h (differ t q) = rw (extract_other e m c level j q) h

      behind : (j : ℕ) → Truth (mem j m.extracted) → (mem j m.extracted || eqb j c) ≡ true → Reached xs level (get_or b.cols j 0) (parent e m.activated j)
      behind j (holds t) h = f.behind j t
      behind j (fails t) h =
          let q : j ≡ c = eqb-true j c (simp t at h) in
          rw q (record { label = l; is = label; near = near; least = rw (available_parent e m c found.holder level found.here) near })

-- ---- how many intervals all calls on a block insert

pub inserted_most_lem : (k : ℕ) (b : Block) → FewClosed k b → inserted_most b ≤ (3 + k) * length b.rows + 2 * length b.cols
unfolding inserted_most
inserted_most_lem k b few = go (length b.rows) refl
  where
    shut : ℕ
    shut = closed b.lengths (length b.rows) (length b.cols)

    go : (r : ℕ) → length b.rows ≡ r → (3 + shut) * length b.rows + 2 * length b.cols ≤ (3 + k) * length b.rows + 2 * length b.cols
    go zero q = rw q (omega arith)
    go (suc r) q = omega (arith, mul-le-mul_right {m = 3 + shut} {n = 3 + k} (length b.rows) (omega (arith, few (omega arith))))

-- ---- a block with its trace

-- a vertex that is not a row leaves the block as it is
same_rows : (b : Block) (old now xs : List Settled) (level : ℕ) (t : Trace) → activated_by b.rows now ≡ activated_by b.rows old → Fine b old xs level t → Fine b now xs level t
same_rows b old now xs level t q f = record {
  sound = f.sound;
  rows_are = f.rows_are ∙ sym q;
  floor = f.floor;
  ahead = f.ahead;
  behind = f.behind;
  done = f.done;
  few = f.few;
}

module _ (n : ℕ) (old xs : List Settled) (level : ℕ) where
  fresh_row : (v : ℕ) → label_of v old ≡ none → (s : BlockState) → Good n old xs level s → (r : ℕ) → place_of v 0 s.block.rows ≡ some r
      → is_activated r s.trace.model.activated ≡ false
  fresh_row v no_label s h r p = rw h.fine.rows_are (not_activated s.block.rows v r old no_label p)

  pub welcome : (v : ℕ) → label_of v old ≡ none → level ≤ max_label → (s : BlockState) → Good n old xs level s → Welcome v level s
  unfolding judge
  welcome v no_label top s h r p =
      let i = place_in v s.block.rows r p in
      simp (lt-leb (length s.block.rows) r i.0, fresh_row v no_label s h r p, le-ltb max_label level top, le-ltb level s.trace.model.floor h.fine.floor)

  pub activate_good : (v : ℕ) (a : Option RouteArc) → label_of v old ≡ none → level ≤ max_label
      → (s : BlockState) → Good n old xs level s → Good n (old ++ settled_at v level a ∷ []) xs level (activate_vertex v level s)
  unfolding activate_vertex activate_at apply activated_one
  activate_good v a no_label top s h = go (place_of v 0 b.rows) refl
    where
      b : Block
      b = s.block

      now : List Settled
      now = old ++ settled_at v level a ∷ []

      go : (y : Option ℕ) → place_of v 0 b.rows ≡ y → Good n now xs level (activate_at y level s)
      go none p = record {
        fit = h.fit;
        fine = same_rows b old now xs level s.trace (activated_by_snoc b.rows old _ ∙ rw p (append-nil (activated_by b.rows old))) h.fine;
      }
      go (some r) p = record {
        fit = h.fit;
        fine = activate_fine b h.fit.monge old xs level s.trace h.fine r (place_in v b.rows r p).0 (fresh_row v no_label s h r p) top now (activated_by_snoc b.rows old _ ∙ rw p);
      }

  pub extract_good : (s : BlockState) (c : ℕ) → least_of s ≡ by c level
      → (l : ℕ) → label_of (get_or s.block.cols c 0) xs ≡ some l → l ≤ level
      → Good n old xs level s → Good n old xs level (apply s extraction)
  unfolding least_of apply
  extract_good s c here l label near h = record {
    fit = h.fit;
    fine = extract_fine s.block h.fit.monge old xs level s.trace h.fine c here l label near;
  }

  -- ---- how many

  pub extracted_bound : (s : BlockState) → Good n old xs level s → length s.trace.model.extracted ≤ length s.block.cols
  extracted_bound s h = extracted_few h.fine.sound

  pub inserted_bound : (s : BlockState) → Good n old xs level s → s.trace.inserted ≤ inserted_most s.block
  unfolding inserted_most
  inserted_bound s h =
      let shut = closed s.block.lengths (length s.block.rows) (length s.block.cols) in
      omega (arith, h.fine.few, mul-le-mul_left (3 + shut) (activated_few h.fine.sound), extracted_few h.fine.sound)

-- ---- what a call leaves as it is, and what it adds

pub activate_block : (v l : ℕ) (s : BlockState) → (activate_vertex v l s).block ≡ s.block
unfolding activate_vertex activate_at apply
activate_block v l s = go (place_of v 0 s.block.rows)
  where
    go : (y : Option ℕ) → (activate_at y l s).block ≡ s.block
    go none = refl
    go (some r) = refl

pub activate_extracted : (v l : ℕ) (s : BlockState) → length (activate_vertex v l s).trace.model.extracted ≡ length s.trace.model.extracted
unfolding activate_vertex activate_at apply extend step activate
activate_extracted v l s = go (place_of v 0 s.block.rows)
  where
    one : (r : ℕ) → Truth (eqb (judge (length s.block.rows) s.trace.model (activation r l)) 0)
        → length (apply s (activation r l)).trace.model.extracted ≡ length s.trace.model.extracted
    one r (holds t) = simp t
    one r (fails t) = simp t

    go : (y : Option ℕ) → length (activate_at y l s).trace.model.extracted ≡ length s.trace.model.extracted
    go none = refl
    go (some r) = one r (truth (eqb (judge (length s.block.rows) s.trace.model (activation r l)) 0))

pub extract_length : (s : BlockState) (c l : ℕ) → least_of s ≡ by c l → length (apply s extraction).trace.model.extracted ≡ suc (length s.trace.model.extracted)
unfolding least_of apply extend extract
extract_length s c l here =
    rw (step_extract s.block.lengths (length s.block.rows) (length s.block.cols) s.trace.model extraction refl, here) (simp length-append (omega arith))

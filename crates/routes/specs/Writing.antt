-- The buffer of a route, as the arcs are put into it.
--   ArcNeeds                          the word of an arc, and buffers that it reads
--   partly partly-..                  the last arcs stand at their places, and the places before them and behind are 0
--   PutArcsNeeds PutArcsLeaves        what is needed and left where all are put
--   PutArcsKeeps put-..               those that are put so far
--   WriteRouteNeeds WriteRouteLeaves wrote-..    the target's label and its arcs
use Rattle.std.specs.Prelude.{◌≡◌, refl, ◌≢◌, ℕ, suc, ◌+◌, ◌-◌, ◌*◌, ◌≤◌, ◌<◌, get_or, length, replicate, take, drop}
use Rattle.std.proofs.Common.{sym, ap, ◌∙◌, arith, length-append, take_at, drop_at}
use mathlib.Core.List.{List, [], ◌∷◌, ◌++◌, flat_map, append_assoc, append-nil}
use Rattle.std.proofs.Math.Option.{none}
use Rattle.std.proofs.lemmas.List.{length-replicate, replicate-append-replicate}
use Rattle.std.proofs.lemmas.List.Edits.{sets, sets-eq}
use Rattle.definitions.specs.Limits.{max_vertices, max_arcs, arc_size, vertex_places, length_places, route_places, unreached}
use Rattle.definitions.specs.Lists.{padded}
use Rattle.definitions.specs.Network.{Piece, RouteArc}
use Rattle.definitions.specs.Labelling.{label_of, held_label, labels}
use Rattle.definitions.specs.Entries.{arc_numbers, arcs_of, route_answer}
use Rattle.definitions.specs.declared.RouteAnswer.{RouteAnswer}
use Rattle.labelling_laws.proofs.LoopLaws.{labels_length, labels_read, read_settled, read_unsettled}
use Rattle.labelling_laws.proofs.Routes.{numbers_length}
use Rattle.labelling_laws.proofs.PieceBlocks.{labels_limited, route_unreached}
use Rattle.engine.specs.Labeller.ArcWords.{tail_of, ArcPlaces, lent_arc}
use Rattle.routes.specs.Following.{Kept, last_state, route_in, HasLabel, vertex_in_lem, word_in, route_few, passed, none_left, CountArcsNeeds, CountArcsLeaves}

-- ---- one arc

pub record ArcNeeds (vertices lengths : List ℕ) (word : ℕ) : Type 0 where
  pub places : ArcPlaces word
  pub vertices_long : length vertices ≡ vertex_places
  pub lengths_long : length lengths ≡ length_places

pub numbers_four : (a : RouteArc) → length (arc_numbers a) ≡ arc_size
unfolding arc_numbers
numbers_four a = refl

-- ---- all of them

-- `done` at the places from k on, and 0 elsewhere
abbrev partly : ℕ → List RouteArc → List ℕ
partly k done = replicate (arc_size * k) 0 ++ (flat_map arc_numbers done ++ replicate (route_places - arc_size * (k + length done)) 0)

partly_none : (k : ℕ) → k ≤ max_arcs → replicate route_places 0 ≡ partly k []
unfolding flat_map
partly_none k few =
    let e : arc_size * k + (route_places - arc_size * (k + 0)) ≡ route_places = omega arith in
    sym (replicate-append-replicate (arc_size * k) (route_places - arc_size * (k + 0)) 0 ∙ ap (λ (m : ℕ). replicate m 0) e)

partly_all : (done : List RouteArc) → partly 0 done ≡ arcs_of done
unfolding arcs_of padded
partly_all done = let e : 0 + length done ≡ length done = omega arith in rw (e, numbers_length done)

partly_long : (k : ℕ) (done : List RouteArc) → k + length done ≤ max_arcs → length (partly k done) ≡ route_places
partly_long k done few = simp (length-append, length-replicate) (omega (arith, numbers_length done))

partly_more : (k : ℕ) (a : RouteArc) (done : List RouteArc) → suc k + length done ≤ max_arcs → sets (partly (k + 1) done) (arc_size * k) (arc_numbers a) ≡ partly k (a ∷ done)
unfolding flat_map
partly_more k a done few =
    let zeros : List ℕ = replicate (arc_size * k) 0 in
    let rest = flat_map arc_numbers done ++ replicate (route_places - arc_size * (k + 1 + length done)) 0 in
    let e : arc_size * (k + 1) ≡ arc_size * k + arc_size = omega arith in
    let front : replicate {A = ℕ} (arc_size * (k + 1)) 0 ≡ replicate (arc_size * k) 0 ++ replicate arc_size 0 = rw e (sym (replicate-append-replicate (arc_size * k) arc_size 0)) in
    let whole : partly (k + 1) done ≡ (replicate (arc_size * k) 0 ++ replicate arc_size 0) ++ rest = rw front in
    let n : length (replicate {A = ℕ} (arc_size * k) 0 ++ replicate arc_size 0) ≡ arc_size * k + arc_size = simp (length-append, length-replicate) in
    let before : take (arc_size * k) (partly (k + 1) done) ≡ zeros =
    ap (take (arc_size * k)) (whole ∙ append_assoc zeros (replicate arc_size 0) rest) ∙ take_at zeros (replicate arc_size 0 ++ rest) (arc_size * k) (length-replicate {A = ℕ} (arc_size * k) 0) in
    let behind : drop (arc_size * k + arc_size) (partly (k + 1) done) ≡ rest =
    ap (drop (arc_size * k + arc_size)) whole ∙ drop_at (replicate {A = ℕ} (arc_size * k) 0 ++ replicate arc_size 0) rest (arc_size * k + arc_size) n in
    let z : k + 1 + length done ≡ k + suc (length done) = omega arith in
    sets-eq (arc_numbers a) (partly (k + 1) done) (arc_size * k) (omega (arith, numbers_four a, partly_long (k + 1) done (omega arith)))
    ∙ rw (numbers_four a, before, behind)
    (append_assoc zeros (arc_numbers a) rest
    ∙ ap (λ (m : ℕ). replicate (arc_size * k) 0 ++ (arc_numbers a ++ (flat_map arc_numbers done ++ replicate (route_places - arc_size * m) 0))) z
    ∙ ap (λ (l : List ℕ). replicate (arc_size * k) 0 ++ l) (sym (append_assoc (arc_numbers a) (flat_map arc_numbers done) (replicate (route_places - arc_size * (k + suc (length done))) 0))))

pub record PutArcsNeeds (arcs vertices lengths words : List ℕ) (target count : ℕ) : Type 0 where
  pub source : ℕ
  pub n : ℕ
  pub pieces : List Piece
  pub kept : Kept vertices lengths words source n pieces
  pub reaches : HasLabel pieces source target
  pub blank : arcs ≡ replicate route_places 0
  pub counted : count ≡ length (route_in pieces source target)

abbrev pub PutArcsLeaves : List ℕ → List ℕ → List ℕ → List ℕ → ℕ → ℕ → Type 0
PutArcsLeaves arcs vertices lengths words target count = (source n : ℕ) (qs : List Piece) → Kept vertices lengths words source n qs → HasLabel qs source target
    → count ≡ length (route_in qs source target) → arcs ≡ arcs_of (route_in qs source target)

-- the arcs that lead to the target: k that lead to v, and those that are put
pub record PutArcsGone (arcs : List ℕ) (qs : List Piece) (source target v k : ℕ) : Type 0 where
  pub there : HasLabel qs source v
  pub left : length (route_in qs source v) ≡ k
  pub done : List RouteArc
  pub parts : route_in qs source target ≡ route_in qs source v ++ done
  pub stands : arcs ≡ partly k done

abbrev pub PutArcsKeeps : List ℕ → List ℕ → List ℕ → List ℕ → ℕ → ℕ → ℕ → ℕ → Type 0
PutArcsKeeps arcs vertices lengths words target count v k = (source n : ℕ) (qs : List Piece) → Kept vertices lengths words source n qs → HasLabel qs source target
    → count ≡ length (route_in qs source target) → PutArcsGone arcs qs source target v k

module _ {arcs₀ vertices lengths words : List ℕ} {target count : ℕ} (needs : PutArcsNeeds arcs₀ vertices lengths words target count) where
  pub put_begun : PutArcsKeeps arcs₀ vertices lengths words target count target count
  put_begun source n qs k h e = record {
    there = h;
    left = sym e;
    done = [];
    parts = sym (append-nil (route_in qs source target));
    stands = needs.blank ∙ partly_none count (omega (arith, route_few k target h));
  }

  module _ {arcs : List ℕ} {v k : ℕ} (r : PutArcsKeeps arcs vertices lengths words target count v k) where
    abbrev gone : PutArcsGone arcs needs.pieces needs.source target v k
    gone = r needs.source needs.n needs.pieces needs.kept needs.reaches needs.counted

    pub put_in : (1 ≤ v) × (v ≤ max_vertices) × (v - 1 < length words)
    put_in = let i = vertex_in_lem needs.kept v gone.there in (i.0, i.1, word_in needs.kept v gone.there)

    in_all : (source n : ℕ) (qs : List Piece) (kept : Kept vertices lengths words source n qs) (h : HasLabel qs source target) (g : PutArcsGone arcs qs source target v k) → k + length g.done ≤ max_arcs
    in_all source n qs kept h g = omega (arith, g.left, ap length g.parts ∙ length-append (route_in qs source v) g.done, route_few kept target h)

    pub put_long : length arcs ≡ route_places
    put_long = rw gone.stands (partly_long k gone.done (in_all _ _ _ needs.kept needs.reaches gone))

    pub put_done : k ≡ 0 → PutArcsLeaves arcs vertices lengths words target count
    put_done z source n qs kept h e =
        let g = r source n qs kept h e in
        let none : route_in qs source v ≡ [] = empty (route_in qs source v) (g.left ∙ z) in
        let all : route_in qs source target ≡ g.done = g.parts ∙ rw none in
        g.stands ∙ rw (z, all) (partly_all g.done)
      where
        empty : (xs : List RouteArc) → length xs ≡ 0 → xs ≡ []
        empty [] q = refl
        empty (x ∷ xs) q = absurd (omega arith)

    module _ (some : 0 < k) where
      not_source : (source n : ℕ) (qs : List Piece) → Kept vertices lengths words source n qs → PutArcsGone arcs qs source target v k → v ≢ source
      not_source source n qs kept g e = omega (arith, g.left, none_left kept v g.there e)

      -- its four places are in the buffer
      pub put_room : arc_size * (k - 1) + arc_size ≤ length arcs
      put_room = omega (arith, put_long, in_all _ _ _ needs.kept needs.reaches gone)

      pub put_needs : ArcNeeds vertices lengths (get_or words (v - 1) 0)
      put_needs = record {
        places = (passed needs.kept v gone.there (not_source _ _ _ needs.kept gone)).places;
        vertices_long = needs.kept.vertices_long;
        lengths_long = needs.kept.lengths_long;
      }

      pub put_next : (after : List ℕ) (u : ℕ) → after ≡ sets arcs (arc_size * (k - 1)) (arc_numbers (lent_arc vertices lengths (get_or words (v - 1) 0)))
          → u ≡ get_or vertices (tail_of (get_or words (v - 1) 0)) 0 → PutArcsKeeps after vertices lengths words target count u (k - 1)
      put_next after u a b source n qs kept h e =
          let g = r source n qs kept h e in
          let p = passed kept v g.there (not_source source n qs kept g) in
          let w = get_or words (v - 1) 0 in
          let z : k - 1 + 1 ≡ k = omega arith in
          rw (a, b) (record {
            there = p.before;
            left = omega (arith, g.left, ap length p.arcs_are ∙ length-append (route_in qs source (get_or vertices (tail_of w) 0)) (lent_arc vertices lengths w ∷ []));
            done = lent_arc vertices lengths w ∷ g.done;
            parts = g.parts ∙ rw p.arcs_are (append_assoc (route_in qs source (get_or vertices (tail_of w) 0)) (lent_arc vertices lengths w ∷ []) g.done);
            stands = ap (λ (l : List ℕ). sets l (arc_size * (k - 1)) (arc_numbers (lent_arc vertices lengths w))) (g.stands ∙ ap (λ (m : ℕ). partly m g.done) (sym z))
                ∙ partly_more (k - 1) (lent_arc vertices lengths w) g.done (omega (arith, in_all source n qs kept h g));
          })

-- ---- the target

-- the labels and the words are those of a labelling, and the target is a vertex
pub record WriteRouteNeeds (vertices lengths : List ℕ) (source target : ℕ) (held words arcs : List ℕ) : Type 0 where
  pub n : ℕ
  pub pieces : List Piece
  pub kept : Kept vertices lengths words source n pieces
  pub shows : held ≡ labels (last_state pieces source)
  pub low : 1 ≤ target
  pub high : target ≤ max_vertices
  pub long : length arcs ≡ route_places

abbrev pub WriteRouteLeaves : List ℕ → List ℕ → ℕ → ℕ → List ℕ → List ℕ → List ℕ → RouteAnswer → Type 0
WriteRouteLeaves vertices lengths source target held words arcs r = (n : ℕ) (qs : List Piece) → Kept vertices lengths words source n qs → held ≡ labels (last_state qs source)
    → (r ≡ route_answer (last_state qs source) target) × (arcs ≡ arcs_of (route_in qs source target))

module _ {vertices lengths : List ℕ} {source target : ℕ} {held words arcs : List ℕ} (needs : WriteRouteNeeds vertices lengths source target held words arcs)
    {label : ℕ} (Label-is : label ≡ get_or held (target - 1) 0) where
  pub target_in_lem : target - 1 < length held
  target_in_lem = omega (arith, needs.low, needs.high, ap length needs.shows ∙ labels_length (last_state needs.pieces source))

  label_held : (qs : List Piece) → held ≡ labels (last_state qs source) → label ≡ held_label (label_of target (last_state qs source).settled)
  label_held qs shows = Label-is ∙ rw shows (labels_read (last_state qs source) target needs.low needs.high)

  -- no arc leads to a target that is not reached
  pub wrote_none : label ≡ unreached → {blank : List ℕ} → blank ≡ replicate (length arcs) 0
      → WriteRouteLeaves vertices lengths source target held words blank (record { number = 0; label = label; arcs = 0 })
  unfolding route_answer arcs_of padded flat_map
  wrote_none far b n qs kept shows =
      let none : label_of target (last_state qs source).settled ≡ none =
      read_unsettled (last_state qs source) target needs.low needs.high (labels_limited n qs source kept.accepted target) (sym (rw shows at Label-is) ∙ far) in
      let route : route_in qs source target ≡ [] = route_unreached n qs source kept.accepted target none in
      (rw (route, ← label_held qs shows), b ∙ rw (route, needs.long))

  module _ (near : label ≢ unreached) where
    has_label : (qs : List Piece) → held ≡ labels (last_state qs source) → HasLabel qs source target
    has_label qs shows = read_settled (last_state qs source) target needs.low needs.high (λ far. near (rw shows at Label-is ∙ far))

    pub wrote_counts : CountArcsNeeds vertices words source target
    wrote_counts = record { lengths = lengths; n = needs.n; pieces = needs.pieces; kept = needs.kept; reaches = has_label needs.pieces needs.shows }

    module _ {count : ℕ} (counted : CountArcsLeaves vertices words source target count) where
      count_is : (n : ℕ) (qs : List Piece) → Kept vertices lengths words source n qs → held ≡ labels (last_state qs source) → count ≡ length (route_in qs source target)
      count_is n qs kept shows = counted lengths n qs kept (has_label qs shows)

      pub wrote_puts : {blank : List ℕ} → blank ≡ replicate (length arcs) 0 → PutArcsNeeds blank vertices lengths words target count
      wrote_puts b = record {
        source = source;
        n = needs.n;
        pieces = needs.pieces;
        kept = needs.kept;
        reaches = has_label needs.pieces needs.shows;
        blank = b ∙ rw needs.long;
        counted = count_is needs.n needs.pieces needs.kept needs.shows;
      }

      pub wrote_all : {after : List ℕ} → PutArcsLeaves after vertices lengths words target count
          → WriteRouteLeaves vertices lengths source target held words after (record { number = 0; label = label; arcs = count })
      unfolding route_answer
      wrote_all puts n qs kept shows =
          let c = count_is n qs kept shows in
          (rw (← c, ← label_held qs shows), puts source n qs kept (has_label qs shows) c)

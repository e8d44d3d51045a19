-- From what the reader answers to the listing.
--   sized                            buffers of the stated sizes
--   Understood read_accepted         an answer with number 0: the plan that was read, and its pieces in the buffers
--   read_refused                     any other answer: the number of the refusal
--   lent                             the network that is then in the buffers, accepted
--   asks_labels asks_route           which listing its question asks for
--   question_fits listing_fits       no listing is longer than the output buffer
--   untouched finished written_fits  what the output buffer holds, and how many bytes are written
use Rattle.std.proofs.Math.Path.{◌≡◌, refl, ap}
use Rattle.std.proofs.Common.{◌∙◌}
use Rattle.std.specs.Prelude.{◌≢◌, List}
use Rattle.std.proofs.Math.Option.{Option, none, some}
use Prim.Native.Nat.{ℕ, zero, suc, ◌+◌, ◌≤◌}
use native.Mathlib.Omega.{arith}
use borrow.Author.Tests.{eq-eqb, ne_eqb}
use Rattle.std.proofs.Math.ListN.{length, length-append}
use Rattle.definitions.specs.declared.ReadAnswer.{ReadAnswer}
use Rattle.definitions.specs.Limits.{size_places, vertex_places, length_places, no_target}
use Rattle.definitions.specs.Lists.{first_cause, Every}
use Rattle.definitions.specs.Network.{size_of}
use Rattle.definitions.specs.Blocks.{blocks}
use Rattle.definitions.specs.Labelling.{State, labelling, route_to}
use Rattle.definitions.specs.Judgement.{judge_piece, judge_target}
use Rattle.definitions.specs.Reading.{Read, refused, value, require, judge_asked, Plan, read_plan, judge_length, read_text}
use Rattle.definitions.proofs.Laws.LineProofs.{text_read}
use Rattle.definitions.specs.Text.{sizes_of, vertices_of, lengths_of}
use Rattle.definitions.specs.Entries.{AfterRead, has_places, judge_buffers, arcs_of, judge_lent, read_refusal, held_target, after_read, reading, refusal_line, state_listing, route_listing, question_listing, plan_listing, listing, listing_places, AfterListing, write_listing}
use Rattle.definitions.proofs.Laws.Members.{every_imp}
use Rattle.definitions.proofs.Laws.CauseLaws.{bounds_in, target_in_lem}
use Rattle.definitions.proofs.Laws.ReadLaws.{bind_value, require_value}
use Rattle.definitions.specs.Written.{SoundPiece, SoundPlan}
use Rattle.logic.specs.Tests.{Truth, holds, fails, truth}
use Rattle.labelling_laws.specs.Acceptance.{Accepted}
use Rattle.labelling_laws.proofs.Routes.{arcs_fit}
use Rattle.text.specs.PieceReading.{Shaped, Room, sizes_long, vertices_full, lengths_full}
use Rattle.text.specs.Back.{pieces_back}
use Rattle.text.specs.Plans.{plan_answer, After as AfterReading}
use Rattle.text.specs.Accepted.{shape_of, network_accepted}
use Rattle.basics.specs.Buffers.{put}
use Rattle.answer.specs.declared.Output.{Output}
use Rattle.answer.specs.Output.{Puts}
use Rattle.answer.specs.Refusals.{Numbered, numbered_text}
use Rattle.answer.specs.Lines.{length_line, length_vertices, length_arcs, refusal_fits}
use Rattle.answer.specs.Lent.{Lent, lent_state, state_listing_lem, route_listing_lem, route_few}

-- ---- the reader

-- a text, with what is read from it
data Seen (r : Read Plan) : Type 0 where
  turned : (k : ℕ) → r ≡ refused k → Seen r
  read : (plan : Plan) → r ≡ value plan → Seen r

seen : (r : Read Plan) → Seen r
seen (refused k) = turned k refl
seen (value plan) = read plan refl

-- what an accepted text was read from, and where its length was judged
text_value : (text : List ℕ) (plan : Plan) → read_text text ≡ value plan → (judge_length text ≡ 0) × (read_plan text ≡ value plan)
unfolding read_text
text_value text plan e =
    let a = bind_value (require (judge_length text)) _ plan e in
    (require_value (judge_length text) a.0 a.1, a.2)

-- buffers of the stated sizes
pub sized : judge_buffers size_places vertex_places length_places ≡ 0
unfolding judge_buffers
sized = refl

module _ (text s v l : List ℕ) (fit : judge_buffers (length s) (length v) (length l) ≡ 0) where
  reading_value : (plan : Plan) → read_text text ≡ value plan → reading text s v l ≡ after_read (value plan)
  unfolding reading first_cause
  reading_value plan e = let a = text_value text plan e in rw (fit, a.0, a.1)

  reading_refused : (k : ℕ) → read_text text ≡ refused k → (reading text s v l).answer ≡ read_refusal k
  unfolding reading first_cause read_text after_read
  reading_refused k e = go (judge_length text) refl
    where
      go : (j : ℕ) → judge_length text ≡ j → (reading text s v l).answer ≡ read_refusal k
      go zero z = let p : read_plan text ≡ refused k = rw z at e in rw (fit, z, p)
      go (suc j) z = let p : ◌≡◌ {A = Read Plan} (refused (suc j)) (refused k) = rw z at e in let q : suc j ≡ k = cc in let n : suc j ≢ 0 = omega arith in rw (fit, z) (simp (ne_eqb (suc j) 0 n) (ap read_refusal q))

-- what the reader understood: the plan, its answer, and the plan's pieces in the buffers
pub record Understood (text : List ℕ) (answer : ReadAnswer) (sizes vertices lengths : List ℕ) : Type 0 where
  pub plan : Plan
  pub said : read_text text ≡ value plan
  pub answered : answer ≡ plan_answer plan
  pub sizes_hold : sizes ≡ sizes_of plan.pieces
  pub vertices_hold : vertices ≡ vertices_of plan.pieces
  pub lengths_hold : lengths ≡ lengths_of plan.pieces

module _ (text s v l : List ℕ) (answer : ReadAnswer) (s' v' l' : List ℕ) (left : AfterReading answer s' v' l' ≡ reading text s v l) (fit : judge_buffers (length s) (length v) (length l) ≡ 0) where
  answer_refused : (k : ℕ) → read_text text ≡ refused k → answer.number ≡ k
  answer_refused k e = ap (λ (a : AfterRead). a.answer.number) left ∙ ap (λ (a : ReadAnswer). a.number) (reading_refused text s v l fit k e)

  answer_value : (plan : Plan) → read_text text ≡ value plan → Understood text answer s' v' l'
  unfolding after_read
  answer_value plan e =
      let same = left ∙ reading_value text s v l fit plan e in
      record {
        plan = plan;
        said = e;
        answered = ap (λ (a : AfterRead). a.answer) same;
        sizes_hold = ap (λ (a : AfterRead). a.sizes) same;
        vertices_hold = ap (λ (a : AfterRead). a.vertices) same;
        lengths_hold = ap (λ (a : AfterRead). a.lengths) same;
      }

  pub read_accepted : answer.number ≡ 0 → Understood text answer s' v' l'
  read_accepted z = go (seen (read_text text))
    where
      go : Seen (read_text text) → Understood text answer s' v' l'
      go (turned k e) = let h : Numbered {A = Plan} (refused k) = rw e at (numbered_text text) in absurd (omega (arith, answer_refused k e, h))
      go (read plan e) = answer_value plan e

  pub read_refused : answer.number ≢ 0 → refusal_line answer.number ≡ listing text
  unfolding listing plan_listing
  read_refused h = go (seen (read_text text))
    where
      go : Seen (read_text text) → refusal_line answer.number ≡ listing text
      go (turned k e) = rw (answer_refused k e, e)
      go (read plan e) = absurd (h (ap (λ (a : ReadAnswer). a.number) (answer_value plan e).answered))

-- ---- the network in the reader's buffers

-- a plan that no cause turns away, in the buffers that hold it
module _ (plan : Plan) (sound : SoundPlan plan) where
  shaped : Every Shaped plan.pieces
  shaped = every_imp (SoundPiece plan.n) Shaped plan.pieces (shape_of plan.n) sound.each

  room : Room (length plan.pieces) (sizes_of plan.pieces) (vertices_of plan.pieces) (lengths_of plan.pieces)
  room = record { pieces = plan.pieces; count = refl; held = record { shaped = shaped; sizes_hold = refl; vertices_hold = refl; lengths_hold = refl } }

  plan_lent : Lent plan.n (length plan.pieces) (sizes_of plan.pieces) (vertices_of plan.pieces) (lengths_of plan.pieces) plan.source
  unfolding judge_lent judge_buffers first_cause
  plan_lent =
      let few = (bounds_in plan.n (length plan.pieces) sound.bounds).1 in
      record {
        network = rw (
          eq-eqb _ _ (sizes_long _ _ _ _ room few),
          eq-eqb _ _ (vertices_full _ _ _ _ room few),
          eq-eqb _ _ (lengths_full _ _ _ _ room few),
          network_accepted plan.n plan.pieces sound.bounds sound.each,
        );
        source_in = sound.source_in;
      }

  plan_accepted : Accepted plan.n plan.pieces plan.source
  plan_accepted = record {
    bounds = sound.bounds;
    pieces_pass = every_imp (SoundPiece plan.n) (λ q. judge_piece plan.n (size_of q) q ≡ 0) plan.pieces (λ q s. s.judgement) sound.each;
    source_passes = sound.source_in;
  }

  -- a target is a vertex: it is never the number that stands for none
  target_none : (target : Option ℕ) → judge_asked plan.n target ≡ 0 → held_target target ≡ no_target → target ≡ none
  unfolding held_target judge_asked
  target_none none h e = refl
  target_none (some t) h e = absurd (omega (arith, (target_in_lem plan.n t h).1, (bounds_in plan.n (length plan.pieces) sound.bounds).0))

  target_some : (target : Option ℕ) → judge_asked plan.n target ≡ 0 → held_target target ≢ no_target → (target ≡ some (held_target target)) × (judge_target plan.n (held_target target) ≡ 0)
  unfolding held_target judge_asked
  target_some none h e = absurd (e refl)
  target_some (some t) h e = (refl, h)

module _ (text s v l : List ℕ) (answer : ReadAnswer) (u : Understood text answer s v l) where
  sound : SoundPlan u.plan
  sound = (text_read text u.plan (text_value text u.plan u.said).1).0

  pub lent : Lent answer.n answer.p s v l answer.source
  lent = rw (u.answered, u.sizes_hold, u.vertices_hold, u.lengths_hold) (plan_lent u.plan sound)

  same_state : lent_state answer.p s v l answer.source ≡ labelling (blocks u.plan.pieces) u.plan.source
  same_state = rw (u.answered, u.sizes_hold, u.vertices_hold, u.lengths_hold, pieces_back u.plan.pieces (shaped u.plan sound))

  -- a question with no target
  pub asks_labels : answer.target ≡ no_target → state_listing answer.n answer.source (lent_state answer.p s v l answer.source) ≡ listing text
  unfolding listing plan_listing question_listing
  asks_labels h =
      let t : u.plan.target ≡ none = target_none u.plan sound u.plan.target sound.target_in_lem (rw u.answered at h) in
      rw (same_state, u.said, u.answered, t)

  -- a question with one
  pub asks_route : answer.target ≢ no_target
      → (judge_target answer.n answer.target ≡ 0) × (route_listing answer.source answer.target (lent_state answer.p s v l answer.source) ≡ listing text)
  unfolding listing plan_listing question_listing held_target
  asks_route h =
      let t = target_some u.plan sound u.plan.target sound.target_in_lem (rw u.answered at h) in
      (rw u.answered t.1, rw (same_state, u.said, u.answered, t.0))

-- ---- the output

module _ (plan : Plan) (sound : SoundPlan plan) where
  -- the plan's labelling
  abbrev st : State
  st = labelling (blocks plan.pieces) plan.source

  question_fits : (target : Option ℕ) → length (question_listing plan.n plan.source target st) ≤ listing_places
  unfolding question_listing
  question_fits none =
      let few = (bounds_in plan.n (length plan.pieces) sound.bounds).0 in
      rw (state_listing_lem plan.n plan.source st few, length-append, length_line, length_vertices) (omega arith)
  question_fits (some target) =
      let few = route_few plan.n plan.pieces plan.source (plan_accepted plan sound) target in
      let sized = arcs_fit (route_to st target) few in
      rw (route_listing_lem plan.source target st, length-append, length_line) (omega (arith, length_arcs (arcs_of (route_to st target)) (length (route_to st target)) (omega arith)))

listing_fits : (text : List ℕ) → length (listing text) ≤ listing_places
unfolding listing plan_listing
listing_fits text = go (seen (read_text text))
  where
    go : Seen (read_text text) → length (listing text) ≤ listing_places
    go (turned k e) = rw e (omega (arith, refusal_fits k))
    go (read plan e) = rw e (question_fits plan (text_read text plan (text_value text plan e).1).0 plan.target)

module _ (text out : List ℕ) where
  pub untouched : length out ≢ listing_places → record { written = 0; out = out } ≡ write_listing text out
  unfolding write_listing has_places
  untouched h = rw (ne_eqb _ _ h)

  pub finished : length out ≡ listing_places → {before after : Output} {xs : List ℕ} → Puts before xs after → before.len ≡ 0 → before.bytes.now ≡ out → xs ≡ listing text
      → record { written = after.len; out = after.bytes.now } ≡ write_listing text out
  unfolding write_listing has_places put
  finished h {before} {after} {xs} p first same e =
      let z : 0 + length xs ≡ length xs = omega arith in
      rw (eq-eqb _ _ h, p.behind, p.stands, first, same, z, e)

-- for every output
pub written_fits : (text out : List ℕ) (end : ℕ) (left : List ℕ) → record { written = end; out = left } ≡ write_listing text out → end ≤ listing_places
unfolding write_listing
written_fits text out end left e = rw (ap (λ (a : AfterListing). a.written) e) (go (truth (has_places listing_places out)))
  where
    go : Truth (has_places listing_places out) → (write_listing text out).written ≤ listing_places
    go (holds t) = rw t (listing_fits text)
    go (fails t) = rw t (omega arith)

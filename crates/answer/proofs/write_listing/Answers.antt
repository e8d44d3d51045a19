-- `answer::write_listing` meets its contract: a refusal is that of the reader, and what is put of the network that the reader left in its
-- buffers is what the question asks for.
use mathlib.Core.Path.{◌≡◌, refl}
use native.Mathlib.Omega.{arith}
use borrow.Author.Rules.{rules}
use Rattle.definitions.specs.Entries.{refusal_line, listing}
use Rattle.answer.specs.Listed.{sized, Understood, read_accepted, read_refused, lent, asks_labels, asks_route, untouched, finished}
use Rattle.answer.proofs.write_listing.Goals as goal

pub returns-then-out-ne-LISTING_BYTES : goal.returns-then-out-ne-LISTING_BYTES
returns-then-out-ne-LISTING_BYTES c = untouched _ _ c.if-out-ne-LISTING_BYTES.true

pub put_refusal-requires : goal.put_refusal-requires
put_refusal-requires c = omega arith

pub returns-then-read-ne0 : goal.returns-then-read-ne0
returns-then-read-ne0 c = let refusal : refusal_line c.read_text-read.result.number ≡ listing c.args.text.now = let r = c.read_text-read in read_refused _ _ _ _ r.result r.new.sizes r.new.vertices r.new.lengths r.ensures sized c.if-read-ne0.true in
    let done = finished _ _ c.if-out-ne-LISTING_BYTES.false c.put_refusal.ensures refl refl refusal in search rules

pub put_labels-requires : goal.put_labels-requires
put_labels-requires c = let understood : Understood c.args.text.now c.read_text-read.result c.read_text-read.new.sizes c.read_text-read.new.vertices c.read_text-read.new.lengths = let r = c.read_text-read in read_accepted _ _ _ _ r.result r.new.sizes r.new.vertices r.new.lengths r.ensures sized c.if-read-ne0.false in
    (search rules, lent _ _ _ _ _ understood)

pub returns-then-read : goal.returns-then-read
returns-then-read c = let understood : Understood c.args.text.now c.read_text-read.result c.read_text-read.new.sizes c.read_text-read.new.vertices c.read_text-read.new.lengths = let r = c.read_text-read in read_accepted _ _ _ _ r.result r.new.sizes r.new.vertices r.new.lengths r.ensures sized c.if-read-ne0.false in
    let done = finished _ _ c.if-out-ne-LISTING_BYTES.false c.put_labels.ensures refl refl (asks_labels _ _ _ _ _ understood c.if-read.true) in search rules

pub put_route-requires : goal.put_route-requires
put_route-requires c = let understood : Understood c.args.text.now c.read_text-read.result c.read_text-read.new.sizes c.read_text-read.new.vertices c.read_text-read.new.lengths = let r = c.read_text-read in read_accepted _ _ _ _ r.result r.new.sizes r.new.vertices r.new.lengths r.ensures sized c.if-read-ne0.false in
    (search rules, lent _ _ _ _ _ understood, (asks_route _ _ _ _ _ understood c.if-read.false).0)

pub returns : goal.returns
returns c = let understood : Understood c.args.text.now c.read_text-read.result c.read_text-read.new.sizes c.read_text-read.new.vertices c.read_text-read.new.lengths = let r = c.read_text-read in read_accepted _ _ _ _ r.result r.new.sizes r.new.vertices r.new.lengths r.ensures sized c.if-read-ne0.false in
    let done = finished _ _ c.if-out-ne-LISTING_BYTES.false c.put_route.ensures refl refl (asks_route _ _ _ _ _ understood c.if-read.false).1 in search rules

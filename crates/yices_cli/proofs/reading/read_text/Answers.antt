use Rattle.std.proofs.Common.{refl, ap, ◌∙◌, arith, length}
use Rattle.y_io.specs.declared.file_name.FileName.TheVariants.{Input}
use Rattle.yices_cli.proofs.Pieces.{front_none, front_grown, grown_full, grown_short}
use Rattle.yices_cli.proofs.reading.read_text.Goals as goal

pub pieces-init : goal.pieces-init
pieces-init g c = record {
  room = omega (arith, ap length c.new-text.ensures.items);
  front = front_none _ _ c.new-text.ensures.items;
  held = refl;
  unbroken = λ p. refl;
  later = omega arith;
}

pub returns-then-room-count-clause-text : goal.returns-then-room-count-clause-text
returns-then-room-count-clause-text g c =
    let behind = c.len-place.ensures ∙ c.pieces.text.ok.0 in
    grown_full _ _ c.len-place.result _ _ _ c.in-Ok.count 67108864 c.pieces.invariant.held behind (omega (arith, behind, c.pieces.invariant.room)) c.pieces.invariant.front
    c.in-Ok.ensures.bytes c.in-Ok.ensures.bound c.if-room-count.true c.in_ok-keep.ensures.ok

pub pieces-preserved : goal.pieces-preserved
pieces-preserved g c =
    let behind = c.len-place.ensures ∙ c.pieces.text.ok.0 in
    let fits = grown_short c.len-place.result _ _ _ c.in-Ok.count 67108864 behind (omega (arith, behind, c.pieces.invariant.room)) c.in-Ok.ensures.bound c.if-room-count.false c.in_ok-keep-2.ensures.ok in record {
      room = fits.1;
      front = front_grown _ _ c.len-place.result _ _ _ c.in-Ok.count c.pieces.invariant.held behind c.pieces.invariant.front c.in-Ok.ensures.bytes c.in_ok-keep-2.ensures.ok;
      held = c.in-Ok.ensures.held Input ∙ c.pieces.invariant.held;
      unbroken = λ p. c.in-Ok.ensures.unbroken Input p ∙ c.pieces.invariant.unbroken p;
      later = omega (arith, c.pieces.invariant.later, c.in-Ok.ensures.later);
    }

-- What the code reads of face f are the step's own values there, and the concentrations in work those before the step: then the law of one face gives the turn.
use Rattle.std.proofs.Common.{rules, ◌≡◌, get_or, refl, eq-eqb, ne_eqb}
use lib.IntN.{pos}
use mir.Syntax.{w64}
use mir.ValLaws.{to_z-of_z}
use Rattle.step_carrying_face.proofs.FaceLaws.{rim-asks, rim-done}
use Rattle.step_carrying.proofs.CarryLaws.{far, face-asks, inside-asks, rim-entered-fits, rim-gone-fits, rim-turn, inside-turn, inside-done}
use Rattle.step_carrying.proofs.carry_turn.Goals as goal

pub carry_rim-amount-requires-clause-face_asks : goal.carry_rim-amount-requires-clause-face_asks
carry_rim-amount-requires-clause-face_asks c =
    let o : get_or c.args.outsides.now c.args.f 0 ≡ far _ c.requires.at_face.ready _ c.requires.f_lt_faces _ _ _ _ _ c.requires.at_face.so_far =
    rw (eq-eqb _ _ c.if-second-eq-RIM.true) in
    rim-asks _ _ _ _ (get_or c.args.shares.now c.args.f 0) (get_or c.args.reaches.now c.args.f 0) _ _ _ _ _ _ _ c.if-second-eq-RIM.true
    (face-asks _ c.requires.at_face.ready _ c.requires.f_lt_faces _ _ _ _ _ c.requires.at_face.so_far _ _ _ _ c.is_negative_at-negative.ensures
    c.size_at-size.ensures c.concentration-a.ensures o)

pub overflow_add-result : goal.overflow_add-result
overflow_add-result c =
    let o : get_or c.args.outsides.now c.args.f 0 ≡ far _ c.requires.at_face.ready _ c.requires.f_lt_faces _ _ _ _ _ c.requires.at_face.so_far =
    rw (eq-eqb _ _ c.if-second-eq-RIM.true) in
    record {
      fits = rim-entered-fits _ c.requires.at_face.ready _ c.requires.f_lt_faces _ _ _ _ _ c.requires.at_face.so_far _ _ _ _ _
          c.is_negative_at-negative.ensures c.size_at-size.ensures c.concentration-a.ensures o _ _ _
          (rim-done _ _ _ _ _ _ _ _ _ _ _ _ _ _ _ _ _ c.if-second-eq-RIM.true c.carry_rim-amount.ensures) c.if-second-eq-RIM.true _
          c.entered-more_in.ensures;
    }

pub overflow_add-result-then-second-eq-RIM : goal.overflow_add-result-then-second-eq-RIM
overflow_add-result-then-second-eq-RIM c =
    let o : get_or c.args.outsides.now c.args.f 0 ≡ far _ c.requires.at_face.ready _ c.requires.f_lt_faces _ _ _ _ _ c.requires.at_face.so_far =
    rw (eq-eqb _ _ c.if-second-eq-RIM.true) in
    record {
      fits = rim-gone-fits _ c.requires.at_face.ready _ c.requires.f_lt_faces _ _ _ _ _ c.requires.at_face.so_far _ _ _ _ _
          c.is_negative_at-negative.ensures c.size_at-size.ensures c.concentration-a.ensures o _ _ _
          (rim-done _ _ _ _ _ _ _ _ _ _ _ _ _ _ _ _ _ c.if-second-eq-RIM.true c.carry_rim-amount.ensures) c.if-second-eq-RIM.true _
          c.gone-more_out.ensures;
    }

pub returns-then-second-eq-RIM : goal.returns-then-second-eq-RIM
returns-then-second-eq-RIM c = λ u r k.
    let o : get_or c.args.outsides.now c.args.f 0 ≡ far _ r _ c.requires.f_lt_faces _ _ _ _ _ k = rw (eq-eqb _ _ c.if-second-eq-RIM.true) in
    rim-turn _ r _ c.requires.f_lt_faces _ _ _ _ _ k _ _ _ _ _ c.is_negative_at-negative.ensures c.size_at-size.ensures c.concentration-a.ensures o _
    _ _
    (rim-done _ _ _ _ _ _ _ _ _ _ _ _ _ _ _ _ _ c.if-second-eq-RIM.true c.carry_rim-amount.ensures) c.if-second-eq-RIM.true _ _
    c.entered-more_in.ensures c.gone-more_out.ensures

pub carry_inside-requires-clause-face_asks : goal.carry_inside-requires-clause-face_asks
carry_inside-requires-clause-face_asks c =
    let o : c.concentration-b.result ≡ far _ c.requires.at_face.ready _ c.requires.f_lt_faces _ _ _ _ _ c.requires.at_face.so_far =
    rw (ne_eqb _ _ c.if-second-eq-RIM.false) c.concentration-b.ensures in
    inside-asks _ c.requires.at_face.ready _ c.requires.f_lt_faces _ _ _ _ _ c.requires.at_face.so_far _ _ _ (to_z-of_z w64 (get_or c.args.fluxes.now
    c.args.f (pos 0)) (search rules)) c.concentration-a.ensures o

pub returns : goal.returns
returns c = λ u r k.
    let o : c.concentration-b.result ≡ far _ r _ c.requires.f_lt_faces _ _ _ _ _ k =
    rw (ne_eqb _ _ c.if-second-eq-RIM.false) c.concentration-b.ensures in
    inside-turn _ r _ c.requires.f_lt_faces _ _ _ _ _ k _ _ _ _ _ refl refl c.concentration-a.ensures o _ _ _
    (inside-done _ r _ c.requires.f_lt_faces _ _ _ _ _ k _ _ _ _ (to_z-of_z w64 (get_or c.args.fluxes.now c.args.f (pos 0)) (search rules)) _ _ _
    c.carry_inside.ensures) c.if-second-eq-RIM.false

-- Length, five tables and zero bits in the order of the causes; the zero bits are looked at only in a record of the right length.
use Rattle.std.proofs.Common.{◌≡◌, sym, [], ◌∷◌, arith}
use Rattle.std.proofs.lemmas.Result.{err_from_is_err_and}
use Rattle.model.proofs.Verdicts.{past, refused-at, fine-all}
use Rattle.record_layouts.specs.Layouts.{mesh_kind, mesh_bits, mesh_length}
use Rattle.record_layouts.proofs.Layouts.{mesh-most, mesh-some}
use Rattle.record_heads.specs.Heads.{kind_in, cells_in, faces_in}
use Rattle.record_reading.specs.Reading.{mesh_body_verdict, mesh_bit_good}
use Rattle.record_bits.proofs.Layouts.{bytes-hold, bytes_most}
use Rattle.record_reading.proofs.ReadLaws.{mesh-tables-say}
use Rattle.record_reading.proofs.verdicts.mesh_body.Goals as goal

pub bytes_for-requires : goal.bytes_for-requires
bytes_for-requires c =
    omega (arith, c.mesh_bits-end.ensures, mesh-most (mesh_kind c.args.width) c.args.cells c.args.faces c.requires.2 c.requires.3)

pub returns-in_err-need : goal.returns-in_err-need
unfolding mesh_body_verdict mesh_length
returns-in_err-need c =
    let p = err_from_is_err_and c.from_residual.result c.from_residual.ensures.1 in
    rw (p.1, p.2) (sym (refused-at [] (_ ∷ _ ∷ _ ∷ _ ∷ _ ∷ _ ∷ []) tt (sym (rw (c.bytes_for.ensures, c.mesh_bits-end.ensures, c.requires.4, c.requires.0, c.requires.1) at c.in_err-need.ensures))))

pub returns-in_err-long : goal.returns-in_err-long
unfolding mesh_body_verdict mesh_length
returns-in_err-long c =
    let p = err_from_is_err_and c.from_residual-in_err-long.result c.from_residual-in_err-long.ensures.1 in
    rw (p.1, p.2) (sym (refused-at (_ ∷ []) (_ ∷ _ ∷ _ ∷ _ ∷ _ ∷ []) ((sym (rw (c.bytes_for.ensures, c.mesh_bits-end.ensures, c.requires.4, c.requires.0, c.requires.1) at c.in_ok-need.ensures)), tt) (sym (rw c.requires.0 at c.in_err-long.ensures))))

pub returns-in_err-long-2 : goal.returns-in_err-long-2
unfolding mesh_body_verdict mesh_length
returns-in_err-long-2 c =
    let p = err_from_is_err_and c.from_residual-in_err-long-2.result c.from_residual-in_err-long-2.ensures.1 in
    rw (p.1, p.2) (sym (refused-at (_ ∷ _ ∷ []) (_ ∷ _ ∷ _ ∷ _ ∷ []) ((sym (rw (c.bytes_for.ensures, c.mesh_bits-end.ensures, c.requires.4, c.requires.0, c.requires.1) at c.in_ok-need.ensures)), ((sym (rw c.requires.0 at c.in_ok-long.ensures)), tt)) (sym (rw c.requires.1 at c.in_err-long-2.ensures))))

pub returns-in_err-long-3 : goal.returns-in_err-long-3
unfolding mesh_body_verdict mesh_length
returns-in_err-long-3 c =
    let p = err_from_is_err_and c.from_residual-in_err-long-3.result c.from_residual-in_err-long-3.ensures.1 in
    rw (p.1, p.2) (sym (refused-at (_ ∷ _ ∷ _ ∷ []) (_ ∷ _ ∷ _ ∷ []) ((sym (rw (c.bytes_for.ensures, c.mesh_bits-end.ensures, c.requires.4, c.requires.0, c.requires.1) at c.in_ok-need.ensures)), ((sym (rw c.requires.0 at c.in_ok-long.ensures)), ((sym (rw c.requires.1 at c.in_ok-long-2.ensures)), tt))) (sym (rw c.requires.1 at c.in_err-long-3.ensures))))

pub returns-in_err-long-4 : goal.returns-in_err-long-4
unfolding mesh_body_verdict mesh_length
returns-in_err-long-4 c =
    let p = err_from_is_err_and c.from_residual-in_err-long-4.result c.from_residual-in_err-long-4.ensures.1 in
    rw (p.1, p.2) (sym (refused-at (_ ∷ _ ∷ _ ∷ _ ∷ []) (_ ∷ _ ∷ []) ((sym (rw (c.bytes_for.ensures, c.mesh_bits-end.ensures, c.requires.4, c.requires.0, c.requires.1) at c.in_ok-need.ensures)), ((sym (rw c.requires.0 at c.in_ok-long.ensures)), ((sym (rw c.requires.1 at c.in_ok-long-2.ensures)), ((sym (rw c.requires.1 at c.in_ok-long-3.ensures)), tt)))) (sym (rw c.requires.1 at c.in_err-long-4.ensures))))

pub returns-in_err-long-5 : goal.returns-in_err-long-5
unfolding mesh_body_verdict mesh_length
returns-in_err-long-5 c =
    let p = err_from_is_err_and c.from_residual-in_err-long-5.result c.from_residual-in_err-long-5.ensures.1 in
    rw (p.1, p.2) (sym (refused-at (_ ∷ _ ∷ _ ∷ _ ∷ _ ∷ []) (_ ∷ []) ((sym (rw (c.bytes_for.ensures, c.mesh_bits-end.ensures, c.requires.4, c.requires.0, c.requires.1) at c.in_ok-need.ensures)), ((sym (rw c.requires.0 at c.in_ok-long.ensures)), ((sym (rw c.requires.1 at c.in_ok-long-2.ensures)), ((sym (rw c.requires.1 at c.in_ok-long-3.ensures)), ((sym (rw c.requires.1 at c.in_ok-long-4.ensures)), tt))))) (sym (rw c.requires.1 at c.in_err-long-5.ensures))))

pub mesh-requires : goal.mesh-requires
unfolding mesh_length
mesh-requires c =
    let bs = c.args.bytes.now in
    let k = kind_in bs in
    let e : c.mesh_bits-end.result ≡ mesh_bits k (cells_in bs) (faces_in bs) = rw (c.requires.4, c.requires.0, c.requires.1) at c.mesh_bits-end.ensures in
    let t = mesh-tables-say bs _ _ _ _ _ (fine-all (_ ∷ _ ∷ _ ∷ _ ∷ _ ∷ _ ∷ []) ((sym (rw (c.bytes_for.ensures, c.mesh_bits-end.ensures, c.requires.4, c.requires.0, c.requires.1) at c.in_ok-need.ensures)), ((sym (rw c.requires.0 at c.in_ok-long.ensures)), ((sym (rw c.requires.1 at c.in_ok-long-2.ensures)), ((sym (rw c.requires.1 at c.in_ok-long-3.ensures)), ((sym (rw c.requires.1 at c.in_ok-long-4.ensures)), ((sym (rw c.requires.1 at c.in_ok-long-5.ensures)), tt))))))) in
    omega (
      arith,
      e,
      t.same_length,
      bytes-hold (mesh_bits k (cells_in bs) (faces_in bs)),
      bytes_most (mesh_bits k (cells_in bs) (faces_in bs)),
      mesh-some k (cells_in bs) (faces_in bs),
      mesh-most k (cells_in bs) (faces_in bs) (rw c.requires.0 at c.requires.2) (rw c.requires.1 at c.requires.3),
    )

pub returns : goal.returns
unfolding mesh_body_verdict mesh_length mesh_bit_good
returns c =
    rw (c.mesh.ensures, c.mesh_bits-end.ensures, c.requires.4, c.requires.0, c.requires.1)
    (sym (past _ (fine-all (_ ∷ _ ∷ _ ∷ _ ∷ _ ∷ _ ∷ []) ((sym (rw (c.bytes_for.ensures, c.mesh_bits-end.ensures, c.requires.4, c.requires.0, c.requires.1) at c.in_ok-need.ensures)), ((sym (rw c.requires.0 at c.in_ok-long.ensures)), ((sym (rw c.requires.1 at c.in_ok-long-2.ensures)), ((sym (rw c.requires.1 at c.in_ok-long-3.ensures)), ((sym (rw c.requires.1 at c.in_ok-long-4.ensures)), ((sym (rw c.requires.1 at c.in_ok-long-5.ensures)), tt)))))))))

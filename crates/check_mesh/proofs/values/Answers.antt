-- 3 refuses, or what 4 and 5 say stands.
use Rattle.std.proofs.Common.{sym, ◌∙◌}
use Rattle.std.proofs.lemmas.Result.{err_from_is_err_and}
use Rattle.model.specs.Causes.{volume_good, ends_good, spacing_good, mesh_values}
use Rattle.model.proofs.Verdicts.{past, out, and_then-assoc}
use Rattle.check_mesh.proofs.values.Goals as goal

pub returns-in_err-volumes_good : goal.returns-in_err-volumes_good
unfolding mesh_values volume_good ends_good spacing_good
returns-in_err-volumes_good c = let p = err_from_is_err_and c.from_residual.result c.from_residual.ensures.1 in
    rw (p.1, p.2) (sym (and_then-assoc _ _ _ ∙ out _ (sym c.in_err-volumes_good.ensures)))

pub returns : goal.returns
unfolding mesh_values volume_good ends_good spacing_good
returns c = c.faces_good.ensures ∙ sym (and_then-assoc _ _ _ ∙ past _ (sym c.in_ok-volumes_good.ensures))

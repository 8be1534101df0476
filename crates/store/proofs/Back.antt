-- What is kept comes back exactly: no keep, no return and no drop of another name touches it.
use Prim.Native.Nat.{ℕ, ◌≤◌}
use mathlib.Core.Path.{◌≡◌, refl, ap, ◌∙◌}
use mathlib.Core.Bool.{true}
use mathlib.Core.List.{List, [], ◌∷◌}
use native.Mathlib.Omega.{arith}
use borrow.Author.Tests.{le-leb}
use lib.ListN.{length, get_or, take}
use lib.Seq.{get_or-take}
use Rattle.lists.specs.Table.{over}
use Rattle.lists.proofs.Tests.{true-both}
use Rattle.model.specs.Causes.{Verdict, accepted, refused, fine, ◌and_then◌, salt_fit, salt_good, field_table, field_values}
use Rattle.model.proofs.Verdicts.{all-fine, need-met, each-cong}
use Rattle.store_kept.specs.Store.{kept_field, count, fields_in, used, is_kept, held_under}
use Rattle.store_kept.specs.Tests.{name_kept}
use Rattle.store.specs.Calls.{store_table, drop_verdict, drop_store, lent_mesh, opened_causes, opened_verdict, keep_causes, keep_verdict, keep_store, return_verdict, return_masses}
use Rattle.store.specs.Lists.{StoreCall, keeping, dropping, returning, elsewhere, store_after, store_after_all, Spares, Spared, ComesBack}
use Rattle.store_kept.proofs.Judged.{counted-good}
use Rattle.store.proofs.Named.{kept_append, new-kept, new-held, other-gone}
use Rattle.store.proofs.Effects.{opened-fine, keep-fits, keep-new, keep-effect, kept-length, kept-counted, drop-effect, dropped-length, dropped-counted}

-- a store that holds its count, and masses under a name
pub record Holding (cells name : ℕ) (masses : List ℕ) (long : ℕ) (store : List ℕ) : Type 0 where
  pub counted : used cells (count store) ≤ length store
  pub lasting : length store ≡ long
  pub kept : is_kept name (fields_in cells store) ≡ true
  pub held : held_under name (fields_in cells store) ≡ masses

module _ (cells name : ℕ) (masses : List ℕ) (long : ℕ) where
  after-keep : (volumes field store : List ℕ) (other : ℕ) (v : Verdict) → keep_verdict cells volumes field store other ≡ v → Holding cells name masses long store
      → Holding cells name masses long (keep_store cells volumes field store other)
  unfolding keep_store
  after-keep volumes field store other (refused i j) e h = rw e h
  after-keep volumes field store other (accepted tt) e h =
      let p = kept_append name (fields_in cells store) (kept_field cells field other ∷ []) h.kept in
      record {
        counted = kept-counted cells volumes field store other e;
        lasting = kept-length cells volumes field store other e ∙ h.lasting;
        kept = rw (keep-effect cells volumes field store other e) p.0;
        held = ap (held_under name) (keep-effect cells volumes field store other e) ∙ p.1 ∙ h.held;
      }

  after-drop : (store : List ℕ) (other : ℕ) (v : Verdict) → drop_verdict cells store other ≡ v → Spares cells name (dropping other) store
      → Holding cells name masses long store
      → Holding cells name masses long (drop_store cells store other)
  unfolding drop_store
  after-drop store other (refused i j) e n h = rw e h
  after-drop store other (accepted tt) e n h =
      let p = other-gone name other (n e) (fields_in cells store) in
      record {
        counted = dropped-counted cells store other e;
        lasting = dropped-length cells store other e ∙ h.lasting;
        kept = ap (is_kept name) (drop-effect cells store other e) ∙ p.0 ∙ h.kept;
        held = ap (held_under name) (drop-effect cells store other e) ∙ p.1 ∙ h.held;
      }

  pub after_one : (k : StoreCall) (store : List ℕ) → Spares cells name k store → Holding cells name masses long store
      → Holding cells name masses long (store_after cells k store)
  after_one (keeping volumes field other) store n h = after-keep volumes field store other (keep_verdict cells volumes field store other) refl h
  after_one (dropping other) store n h = after-drop store other (drop_verdict cells store other) refl n h
  after_one (returning volumes field other) store n h = h
  after_one elsewhere store n h = h

  pub after-all : (ks : List StoreCall) (store : List ℕ) → Spared cells name store ks → Holding cells name masses long store
      → Holding cells name masses long (store_after_all cells store ks)
  unfolding store_after_all
  after-all [] store n h = h
  after-all (k ∷ ks) store n h = after-all ks (store_after cells k store) n.1 (after_one k store n.0 h)

-- what an accepted keep leaves
module _ (cells : ℕ) (volumes masses store : List ℕ) (name : ℕ) (e : keep_verdict cells volumes masses store name ≡ fine) where
  pub holding : Holding cells name (take cells masses) (length store) (keep_store cells volumes masses store name)
  holding =
      let f = kept_field cells masses name in
      record {
        counted = kept-counted cells volumes masses store name e;
        lasting = kept-length cells volumes masses store name e;
        kept = rw (keep-effect cells volumes masses store name e) (new-kept name (fields_in cells store) f refl);
        held = ap (held_under name) (keep-effect cells volumes masses store name e)
            ∙ new-held name (fields_in cells store) f (keep-new cells volumes masses store name e) refl;
      }

  -- the masses kept pass cause 6 again
  salt-again : field_values (lent_mesh cells volumes masses store) (take cells masses) ≡ fine
  unfolding keep_verdict field_values salt_good
  salt-again = each-cong 6 cells _ _ (λ c h. ap (salt_fit (get_or volumes c 0)) (get_or-take cells masses c 0 h))
      ∙ (all-fine (keep_causes cells volumes masses store name) e).1.0

  -- a return from a store that holds them
  module _ (later filled : List ℕ) (l : cells ≤ length filled) (h : Holding cells name (take cells masses) (length store) later) where
    pub return-fine : return_verdict cells volumes filled later name ≡ fine
    unfolding return_verdict opened_verdict store_table field_table name_kept ◌and_then◌
    return-fine =
        let o = all-fine (opened_causes cells volumes masses store) (opened-fine cells volumes masses store name e) in
        let n : 1 ≤ length later = omega (arith, h.counted) in
        rw (
          o.0,
          o.1.0,
          need-met 2 5 (le-leb cells (length filled) l),
          need-met 2 13 (le-leb 1 (length later) n),
          o.1.1.1.1.0,
          counted-good cells later h.counted,
          need-met 17 name (true-both (keep-fits cells volumes masses store name e) h.kept),
          h.held,
          salt-again,
        )

    pub return-gives : return_masses cells volumes filled later name ≡ over (take cells masses) filled
    unfolding return_masses
    return-gives = rw (return-fine, h.held)

pub comes_back : ComesBack
comes_back cells volumes masses store name e calls n filled l =
    let h = after-all cells name (take cells masses) (length store) calls (keep_store cells volumes masses store name) n
    (holding cells volumes masses store name e) in
    let later = store_after_all cells (keep_store cells volumes masses store name) calls in
    (return-fine cells volumes masses store name e later filled l h, return-gives cells volumes masses store name e later filled l h)

-- Packages have an order: ranks for just those from which no chain of imports meets a package twice.
use Rattle.std.proofs.Common.{◌≡◌, ℕ, zero, suc, ◌+◌, ◌≤◌, List, length, Option, refl, subst, arith}
use Rattle.std.specs.Prelude.{slice_get}
use Rattle.imports.specs.Ranks.{Package, IsOrder}
use Rattle.imports.specs.Settling.{Ranking, given_imports, begun, settled, served_by}
use Rattle.imports.proofs.Settled.{rank_at, Going, Turned}
use Rattle.imports.proofs.Ordered.{begins, settles, all_settled, serves, ordered}

pub record HasOrder (packages : List Package) : Type 0 where
  pub rank : ℕ → Option ℕ
  pub ranked : List ℕ
  pub is_order : IsOrder packages rank ranked

module _ (packages : List Package) where
  -- the packages before the place are settled
  record IsSettled (p : ℕ) : Type 0 where
    ranking : Ranking
    going : Going (given_imports packages) 0 (λ i. p ≤ i) ranking

  settle_before : (p : ℕ) → IsSettled p
  settle_before zero =
      let first = begun (given_imports packages) in
      record { ranking = first; going = begins packages (given_imports packages) first refl refl }
  settle_before (suc p) =
      let w = settle_before p in
      let next = settled p w.ranking in
      let same : p + 1 ≡ suc p = omega arith in
      record {
        ranking = next;
        going = subst (λ (n : ℕ). Going (given_imports packages) 0 (λ i. n ≤ i) next) same
            (settles packages p w.ranking next w.going refl);
      }

  -- so many packages with ranks are served
  record IsServed (k : ℕ) : Type 0 where
    ranking : Ranking
    turned : Turned (given_imports packages) k ranking

  serve : (k : ℕ) → IsServed k
  serve zero =
      let w = settle_before (length packages) in
      record { ranking = w.ranking; turned = all_settled packages (length packages) w.ranking (omega arith) w.going }
  serve (suc k) =
      let w = serve k in
      let next = served_by (slice_get w.ranking.ranked k) w.ranking in
      let same : k + 1 ≡ suc k = omega arith in
      record {
        ranking = next;
        turned = subst (λ (n : ℕ). Turned (given_imports packages) n next) same
            (serves packages k w.ranking next w.turned refl);
      }

  pub has_order : HasOrder packages
  has_order =
      let w = serve (length packages) in
      record {
        rank = rank_at w.ranking.ranks;
        ranked = w.ranking.ranked;
        is_order = ordered packages w.ranking (length packages) refl w.turned;
      }

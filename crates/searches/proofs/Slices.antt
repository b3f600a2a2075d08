-- Trails that are cut and put together.
use Rattle.std.proofs.Common.{◌≡◌, ◌≢◌, ℕ, ◌<◌, refl, sym, ap₂, subst, List, [], ◌∷◌, ◌++◌, length, map, arith}
use Rattle.node_pick.specs.Rules.{Rule, depth_first, best_first, oldest_first, free, Follows}
use Rattle.node_pick.specs.declared.info.NodeInfo.{NodeInfo}
use Rattle.linear_models.specs.Model.{Model, IsValid}
use Rattle.searches.specs.Trees.{info}
use Rattle.searches.specs.Trails.{State, SearchUnit, Leads, stays, grows, Grows, opens, pivots, start}
use Rattle.searches.specs.Slices.{SlicesJoin, SlicesPart, SlicesAgree}
use Rattle.searches.proofs.Determined.{next_one}

pub slices_join : SlicesJoin
slices_join m rule s t us vs w l stays = l
slices_join m rule s t us vs w l (grows ws x u y k g) = grows (ws ++ us) x u y (slices_join m rule s t us ws x l k) g

pub slices_part : SlicesPart
slices_part m rule us [] s w l = (w, l, stays)
slices_part m rule us (v ∷ vs) s w (grows ws x u y k g) =
    let p = slices_part m rule us vs s x k in
    (p.0, p.1, grows vs x v w p.2 g)

-- ---- any rule allows no more than the free one
within : (rule : Rule) (w : List NodeInfo) (p : ℕ) → Follows rule w p → p < length w
within depth_first w p f = f.place
within best_first w p f = f.place
within oldest_first w p f = f.place
within free w p f = f

free_grows : (m : Model) (rule : Rule) (s t : State) (u : SearchUnit) → Grows m rule s u t → Grows m free s u t
free_grows m rule s t u (opens p node t' z o e q b) = opens p node t z o e (within rule (map info s.waiting) p q) b
free_grows m rule s t u (pivots w r c t' z n y b) = pivots w r c t z n y b

pub free_leads : (m : Model) (rule : Rule) (s : State) (us : List SearchUnit) (t : State) → Leads m rule s us t → Leads m free s us t
free_leads m rule s us t stays = stays
free_leads m rule s us t (grows ws x u y l g) = grows ws x u t (free_leads m rule s ws x l) (free_grows m rule x t u g)

pub slices_agree : SlicesAgree
slices_agree m rule before s us us' t t' v nf h stays stays e = (refl, refl)
slices_agree m rule before s us us' t t' v nf h stays (grows vs x u y l g) e = absurd (omega (arith, e))
slices_agree m rule before s us us' t t' v nf h (grows vs x u y l g) stays e = absurd (omega (arith, e))
slices_agree m rule before s us us' t t' v nf h (grows vs x u y l g) (grows vs' x' u' y' l' g') e =
    let k = slices_agree m rule before s vs vs' x x' v nf h l l' (omega (arith, e)) in
    let one = next_one m free rule (vs ++ before) x t t' u u' v nf (slices_join m free start s before vs x h (free_leads m rule s vs x l)) g (subst (λ (z : State). Grows m rule z u' t') (sym k.1) g') in
    (ap₂ ◌∷◌ one.0 k.0, one.1)

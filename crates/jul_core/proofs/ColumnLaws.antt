-- The columns of levels and cores, written draw by draw.
use Rattle.std.proofs.Common.{◌≡◌, ℕ, ◌+◌, ◌<◌, List, [], ◌∷◌, ◌++◌, length, get_or, set, take, sym, ◌∙◌, ap, subst, refl, arith, inl, inr}
use Rattle.std.specs.List.{All, Contains}
use Rattle.std.proofs.lemmas.Bool.{cases_eq}
use Rattle.std.proofs.lemmas.List.{get_or_default, take_more, get_or-set_same, get_or-set_other, length-set}
use Rattle.std.proofs.lemmas.List.Elements.{Contains-push, Contains-push_cases, Contains-append_left}
use Rattle.jul_base.specs.declared.graphs.RawGraph.{RawGraph}
use Rattle.jul_base.specs.declared.results.Cores.{Cores}
use Rattle.jul_base.specs.Graph.{vertices, IsLawful}
use Rattle.jul_base.specs.Levels.{next_bound, taken, peeling}
use Rattle.jul_base.proofs.PeelLaws.{All-from_has}
use Rattle.jul_core.specs.Peels.{draws_before, draw_at, draw_in, AreCoredBy, AreWritten}
use Rattle.jul_bucket.specs.declared.draws.Draw.{Draw}
use Rattle.jul_core.proofs.PeelStatements.{ColumnsKeep}
use Rattle.jul_core.proofs.StageLaws.{IsStage-at, taken-is}
use Rattle.jul_core.proofs.DrawLaws.{level_once, length-draws, draw_at-is}

-- any columns of the right length are right before the first draw
pub cored-start : (g : RawGraph) (columns : Cores) → length columns.core ≡ vertices g → length columns.level ≡ vertices g → AreCoredBy g [] columns
cored-start g columns core_size level_size = record {
  core_size = core_size;
  level_size = level_size;
  levels = λ v t v_lt t_lt held. absurd (omega arith);
  cores = λ v t v_lt t_lt held. absurd (omega arith);
}

-- one column of them: x u is what the draw number u writes
keeps : (g : RawGraph) (t : ℕ) (x : ℕ → ℕ) (old new : List ℕ) → length old ≡ vertices g → AreWritten (taken g (peeling g t)) (x t) old new →
    ((v u : ℕ) → v < vertices g → u < t → Contains (taken g (peeling g u)) v → get_or old v 0 ≡ x u) →
    (v u : ℕ) → v < vertices g → u < t + 1 → Contains (taken g (peeling g u)) v → get_or new v 0 ≡ x u
keeps g t x old new size written before v u v_lt u_lt held =
    elim (cases_eq t u) [
      | inl same ↦
          let held' : Contains (taken g (peeling g t)) v = subst (λ k. Contains (taken g (peeling g k)) v) (sym same) held in
          subst (λ k. get_or new v 0 ≡ x k) same (written.at v (omega arith) held')
      | inr other ↦
          written.other v (omega arith) (λ again. other (level_once g v t u again held)) ∙ before v u v_lt (omega arith) held
    ]

ids-there : (g : RawGraph) (t u v : ℕ) → u < t → Contains (draw_at (draws_before g t) u).ids v → Contains (taken g (peeling g u)) v
ids-there g t u v lt held = subst (λ (d : Draw). Contains d.ids v) (draw_at-is g t u lt) held

ids-back : (g : RawGraph) (t u v : ℕ) → u < t → Contains (taken g (peeling g u)) v → Contains (draw_at (draws_before g t) u).ids v
ids-back g t u v lt held = subst (λ (d : Draw). Contains d.ids v) (sym (draw_at-is g t u lt)) held

bucket-is : (g : RawGraph) (t u : ℕ) → u < t → (draw_at (draws_before g t) u).bucket ≡ next_bound g (peeling g u)
bucket-is g t u lt = subst (λ (d : Draw). d.bucket ≡ next_bound g (peeling g u)) (sym (draw_at-is g t u lt)) refl

pub columns_keep : ColumnsKeep
columns_keep g t old new cored levels cores = record {
  core_size = cores.size ∙ cored.core_size;
  level_size = levels.size ∙ cored.level_size;
  levels = λ v u v_lt u_lt held.
      let lt : u < t + 1 = omega (arith, length-draws g (t + 1)) in
      keeps g t (λ k. k) old.level new.level cored.level_size levels
      (λ v u v_lt u_lt held. cored.levels v u v_lt (omega (arith, length-draws g t)) (ids-back g t u v u_lt held))
      v u v_lt lt (ids-there g (t + 1) u v lt held);
  cores = λ v u v_lt u_lt held.
      let lt : u < t + 1 = omega (arith, length-draws g (t + 1)) in
      keeps g t (λ k. next_bound g (peeling g k)) old.core new.core cored.core_size cores
      (λ v u v_lt u_lt held. cored.cores v u v_lt (omega (arith, length-draws g t)) (ids-back g t u v u_lt held) ∙ bucket-is g t u u_lt)
      v u v_lt lt (ids-there g (t + 1) u v lt held)
      ∙ sym (bucket-is g (t + 1) u lt);
}

-- ---- a loop that writes each draw

module _ (g : RawGraph) (lawful : IsLawful g) (draws : List Draw) (are : draws ≡ draws_before g (length draws)) (t : ℕ) (d : Draw) (lt : t < length draws) (at : d ≡ get_or draws t d) (ids : List ℕ) (ids_are : ids ≡ d.ids) where
  draw-is : d ≡ draw_in g (peeling g t)
  draw-is =
      at ∙ get_or_default draws t d (record { bucket = 0; ids = [] }) lt
      ∙ ap (λ l. get_or l t (record { bucket = 0; ids = [] })) are ∙ draw_at-is g (length draws) t lt

  taken-are : ids ≡ taken g (peeling g t)
  taken-are = ids_are ∙ ap (λ (d : Draw). d.ids) draw-is

  -- its ids have a row in a column
  pub ids_in : (column : List ℕ) → length column ≡ vertices g → All (λ v. v < length column) ids
  ids_in column size =
      subst (All (λ v. v < length column)) (sym taken-are)
      (All-from_has (λ v. v < length column) (taken g (peeling g t)) (λ v h. subst (λ n. v < n) (sym size) ((IsStage-at g lawful t).within v (taken-is g (peeling g t) v h).0)))

  pub one_more : (old new : Cores) → AreCoredBy g (draws_before g t) old → AreWritten ids t old.level new.level → AreWritten ids d.bucket old.core new.core →
      AreCoredBy g (draws_before g (t + 1)) new
  one_more old new cored levels cores =
      columns_keep g t old new cored
      (subst (λ l. AreWritten l t old.level new.level) taken-are levels)
      (subst (λ b. AreWritten (taken g (peeling g t)) b old.core new.core) (ap (λ (d : Draw). d.bucket) draw-is)
      (subst (λ l. AreWritten l d.bucket old.core new.core) taken-are cores))

-- ---- a loop that writes a number at each id

pub written-more : (ids : List ℕ) (i id x : ℕ) (old new : List ℕ) → i < length ids → id ≡ get_or ids i id → id < length old →
    AreWritten (take i ids) x old new → AreWritten (take (i + 1) ids) x old (set new id x)
written-more ids i id x old new lt is in_range before =
    let more : take (i + 1) ids ≡ take i ids ++ id ∷ [] = take_more ids i id lt ∙ ap (λ y. take i ids ++ y ∷ []) (sym is) in
    let here : get_or (set new id x) id 0 ≡ x = get_or-set_same new id x 0 (omega (arith, before.size)) in
    subst (λ l. AreWritten l x old (set new id x)) (sym more) (record {
      size = length-set new id x ∙ before.size;
      at = λ v v_lt held.
          elim (cases_eq v id) [
            | inl same ↦ ap (λ k. get_or (set new id x) k 0) same ∙ here
            | inr apart ↦
                elim (Contains-push_cases (take i ids) id v held) [
                  | inl earlier ↦ get_or-set_other new id v x 0 apart ∙ before.at v v_lt earlier
                  | inr same ↦ absurd (apart (sym same))
                ]
          ];
      other = λ v v_lt none.
          let apart : v ≡ id → ⊥ = λ same. none (subst (Contains (take i ids ++ id ∷ [])) (sym same) (Contains-push (take i ids) id)) in
          get_or-set_other new id v x 0 apart ∙ before.other v v_lt (λ earlier. none (Contains-append_left (take i ids) (id ∷ []) v earlier));
    })

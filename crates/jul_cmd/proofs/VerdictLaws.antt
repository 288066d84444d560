-- The verdict on a witness, by its columns, and the refusals that come before it.
use Rattle.std.proofs.Common.{◌≡◌, ℕ, Bool, true, false, cond, List, [], Option, Some, None, Result, Ok, Err, IfSome, IfOk, refl, sym, ◌∙◌, subst, ap, arith, inl, inr}
use Rattle.std.specs.Option.{option_map}
use Rattle.std.specs.Result.{IfErr, IsErrAnd}
use Rattle.std.specs.Prelude.{codes}
use Rattle.std.proofs.lemmas.Bool.Decides.{Decides-eqb}
use Rattle.std.proofs.lemmas.Bool.{cond-true}
use Rattle.jul_base.specs.declared.graphs.RawGraph.{RawGraph}
use Rattle.jul_base.specs.declared.limits.TheConstants.{MAX_BYTES}
use Rattle.jul_base.specs.declared.results.Cores.{Cores}
use Rattle.jul_base.specs.declared.results.Distances.{Distances}
use Rattle.jul_base.specs.declared.results.Cover.{Cover}
use Rattle.jul_base.specs.Graph.{vertices, places}
use Rattle.jul_witness.specs.declared.faults.WitnessFault.{WitnessFault}
use Rattle.jul_witness.specs.declared.witnesses.Witness.{Witness}
use Rattle.jul_witness.specs.declared.witnesses.Columns.{Columns}
use Rattle.jul_witness.specs.declared.witnesses.Columns.TheVariants as results
use Rattle.jul_witness.specs.Reading.{reads_witness}
use Rattle.jul_witness.specs.Texts.{columns_text, witness_of_columns, sources_of}
use Rattle.jul_check.specs.declared.verdicts.Verdict.{Verdict}
use Rattle.jul_check.specs.declared.verdicts.Verdict.TheVariants.{Yes, No}
use Rattle.jul_check.specs.CoreChecks.{cores_verdict}
use Rattle.jul_check.specs.DistanceChecks.{distances_verdict}
use Rattle.jul_check.specs.CoverChecks.{cover_verdict}
use Rattle.jul_query.specs.Queries.{Purpose, check}
use Rattle.jul_cmd.specs.declared.statuses.Status.{Status}
use Rattle.jul_cmd.specs.declared.statuses.Status.TheVariants.{Done, SizeDiffers, PlacesDiffer, SourcesDiffer}
use Rattle.jul_cmd.specs.Suited.{refusal_of_sources}
use Rattle.jul_cmd.specs.Files.{witness_of_file}
use Rattle.jul_cmd.specs.Checking.{size_of, refusal_of_size, refusal_of_places, difference_at, refusal_of_names, or_else, refusal_of_witness, sources_meant, unless, judged, judged_witness}
use Rattle.jul_cmd.specs.Checking.{yes_text, verdict_status, verdict_text, IsVerdictTold, IsTold, IsAccepted, AreBorneOut, IsJudged}
use Rattle.jul_cmd.specs.Statuses.{stage_of}
use Rattle.jul_cmd.specs.Parts.{IsWitnessRefusal, IsWitnessRefused, Judges}
use Rattle.jul_cmd.proofs.SourceLaws.{refusal_stage}

-- what is said of the value of a result
pub at_ok : {X E : Type 0} (P : X → Type 0) (r : Result X E) (x : X) → r ≡ Ok x → IfOk r P → P x
at_ok P (Ok v) x e h = let same : v ≡ x = cc in subst P same h
at_ok P (Err f) x e h = cc

pub at_err : {X E : Type 0} (P : E → Type 0) (r : Result X E) (x : E) → IsErrAnd r (λ e. e ≡ x) → P x → IfErr r P
at_err P (Ok v) x h p = tt
at_err P (Err e) x h p = subst P (sym h) p

pub ok_is : {X E : Type 0} (r : Result X E) (x y : X) → r ≡ Ok x → IfOk r (λ v. v ≡ y) → x ≡ y
ok_is r x y e h = at_ok (λ v. v ≡ y) r x e h

pub same_ok : {X E : Type 0} (x y : X) → ◌≡◌ {A = Result X E} (Ok x) (Ok y) → x ≡ y
same_ok x y e = cc

-- what is said of a refusal that is handed on
pub judges_refused : (r : Result Verdict Status) (x : Status) (said : Result Verdict Status) → IsErrAnd r (λ e. e ≡ x) → Judges (Err x) said → Judges r said
judges_refused (Ok v) x said h judges = absurd h
judges_refused (Err e) x said h judges = subst (λ s. Judges (Err s) said) (sym h) judges

-- ---- columns of the graph's size

pub judged-cores : (g : RawGraph) (sources : List ℕ) (columns : Columns) (c : Cores) → columns ≡ results.Cores c → judged g sources columns ≡ Ok (cores_verdict g c)
unfolding judged
judged-cores g sources columns c e = ap (judged g sources) e

pub judged-cover : (g : RawGraph) (sources : List ℕ) (columns : Columns) (c : Cover) → columns ≡ results.Cover c → judged g sources columns ≡ Ok (cover_verdict g c)
unfolding judged
judged-cover g sources columns c e = ap (judged g sources) e

pub judged-distances : (g : RawGraph) (sources : List ℕ) (columns : Columns) (d : Distances) → columns ≡ results.Distances d → refusal_of_sources (vertices g) sources ≡ None →
    judged g sources columns ≡ Ok (distances_verdict g sources d)
unfolding judged
judged-distances g sources columns d e inside = ap (judged g sources) e ∙ ap (λ r. unless r (Ok (distances_verdict g sources d))) inside

judged-outside : (g : RawGraph) (sources : List ℕ) (columns : Columns) (d : Distances) (status : Status) → columns ≡ results.Distances d → refusal_of_sources (vertices g) sources ≡ Some status →
    judged g sources columns ≡ Err status
unfolding judged
judged-outside g sources columns d status e outside = ap (judged g sources) e ∙ ap (λ r. unless r (Ok (distances_verdict g sources d))) outside

-- a source that is no vertex is the refusal
pub judges_outside : (g : RawGraph) (sources : List ℕ) (n : ℕ) (columns : Columns) (d : Distances) (status : Status) → columns ≡ results.Distances d → n ≡ vertices g → refusal_of_sources n sources ≡ Some status →
    Judges (Err status) (judged g sources columns)
judges_outside g sources n columns d status e same outside =
    let at : stage_of status ≡ 6 = refusal_stage n sources status outside in
    inl ((omega (arith, at), omega (arith, at)), judged-outside g sources columns d status e (ap (λ k. refusal_of_sources k sources) (sym same) ∙ outside))

-- only distances need the sources
judged-named : (g : RawGraph) (sources : List ℕ) (columns : Columns) → judged g (sources_meant (sources_of sources columns) None) columns ≡ judged g sources columns
unfolding judged
judged-named g sources (results.Cores c) = refl
judged-named g sources (results.Distances d) = refl
judged-named g sources (results.Cover c) = refl

-- ---- the refusals before the verdict

test_told : (P : Status → Type 0) (b : Bool) (refusal : Status) → P refusal → IfSome (cond b None (Some refusal)) P
test_told P true refusal p = tt
test_told P false refusal p = p

either_told : (P : Status → Type 0) (a b : Option Status) → IfSome a P → IfSome b P → IfSome (or_else a b) P
either_told P None b p q = q
either_told P (Some refusal) b p q = p

places_told : (m : ℕ) (named : Option ℕ) → IfSome (refusal_of_places m named) IsWitnessRefusal
places_told m None = tt
places_told m (Some named) = test_told IsWitnessRefusal _ (PlacesDiffer named m) (omega arith, omega arith)

difference_told : (o : Option ℕ) → IfSome (option_map (λ at. SourcesDiffer at) o) IsWitnessRefusal
difference_told None = tt
difference_told (Some at) = (omega arith, omega arith)

names_told : (named given : Option (List ℕ)) → IfSome (refusal_of_names named given) IsWitnessRefusal
names_told None given = tt
names_told (Some named) None = tt
names_told (Some named) (Some given) = difference_told (difference_at 0 named given)

-- they come at their stages
refusals_told : (g : RawGraph) (given : Option (List ℕ)) (w : Witness) → IfSome (refusal_of_witness g given w) IsWitnessRefusal
unfolding refusal_of_witness
refusals_told g given w =
    either_told IsWitnessRefusal (refusal_of_size (vertices g) (size_of w.columns)) _ (test_told IsWitnessRefusal _ (SizeDiffers (size_of w.columns) (vertices g)) (omega arith, omega arith))
    (either_told IsWitnessRefusal (refusal_of_places (places g) w.places) _ (places_told (places g) w.places) (names_told w.sources given))

first_none : (a b : Option Status) → or_else a b ≡ None → (a ≡ None) × (b ≡ None)
first_none None b e = (refl, e)
first_none (Some refusal) b e = absurd (cc)

test_none : (b : Bool) (refusal : Status) → cond b None (Some refusal) ≡ None → b ≡ true
test_none true refusal e = refl
test_none false refusal e = absurd (cc)

-- a witness that isn't refused has the size of the graph
pub size_same : (g : RawGraph) (given : Option (List ℕ)) (w : Witness) → refusal_of_witness g given w ≡ None → size_of w.columns ≡ vertices g
unfolding refusal_of_witness
size_same g given w e =
    let h : refusal_of_size (vertices g) (size_of w.columns) ≡ None = (first_none (refusal_of_size (vertices g) (size_of w.columns)) _ e).0 in
    (Decides-eqb (size_of w.columns) (vertices g)).0 (test_none _ _ h)

-- the refusal, by that of the size and that of the places
pub refusal_is : (g : RawGraph) (given : Option (List ℕ)) (w : Witness) (n m : ℕ) (size named : Option Status) → n ≡ vertices g → refusal_of_size n (size_of w.columns) ≡ size →
    m ≡ places g → refusal_of_places m w.places ≡ named → refusal_of_witness g given w ≡ or_else size (or_else named (refusal_of_names w.sources given))
unfolding refusal_of_witness
refusal_is g given w n m size named en by_size em by_places =
    ap (λ r. or_else r (or_else (refusal_of_places (places g) w.places) (refusal_of_names w.sources given))) (ap (λ k. refusal_of_size k (size_of w.columns)) (sym en) ∙ by_size)
    ∙ ap (λ r. or_else size (or_else r (refusal_of_names w.sources given))) (ap (λ k. refusal_of_places k w.places) (sym em) ∙ by_places)

-- ---- a witness

judged_witness-none : (g : RawGraph) (given : Option (List ℕ)) (w : Witness) → refusal_of_witness g given w ≡ None → judged_witness g given w ≡ judged g (sources_meant w.sources given) w.columns
unfolding judged_witness
judged_witness-none g given w e = ap (λ r. unless r (judged g (sources_meant w.sources given) w.columns)) e

judged_witness-some : (g : RawGraph) (given : Option (List ℕ)) (w : Witness) (status : Status) → refusal_of_witness g given w ≡ Some status → judged_witness g given w ≡ Err status
unfolding judged_witness
judged_witness-some g given w status e = ap (λ r. unless r (judged g (sources_meant w.sources given) w.columns)) e

-- ---- the text of columns that are judged to be borne out is accepted

-- the text of columns is read back as the columns, with the number of places and the sources
abbrev pub IsReadBack : ℕ → List ℕ → Columns → Type 0
IsReadBack m sources columns = reads_witness (columns_text m sources columns) MAX_BYTES ≡ Ok (witness_of_columns m sources columns)

pub read_back_named : (m : ℕ) (sources sources' : List ℕ) (columns : Columns) → sources' ≡ sources → IsReadBack m sources' columns → IsReadBack m sources columns
read_back_named m sources sources' columns e h = subst (λ s. IsReadBack m s columns) e h

file_says : (m : ℕ) (sources : List ℕ) (columns : Columns) → IsReadBack m sources columns → witness_of_file (columns_text m sources columns) ≡ Ok (witness_of_columns m sources columns)
unfolding witness_of_file
file_says m sources columns e = e

no_names : (named : Option (List ℕ)) → refusal_of_names named None ≡ None
no_names None = refl
no_names (Some named) = refl

-- a witness of the size and the places of the graph isn't refused where the words name no source
not_refused : (g : RawGraph) (m : ℕ) (sources : List ℕ) (columns : Columns) → m ≡ places g → size_of columns ≡ vertices g → refusal_of_witness g None (witness_of_columns m sources columns) ≡ None
not_refused g m sources columns em size =
    let w = witness_of_columns m sources columns in
    refusal_is g None w (vertices g) (places g) None None refl (cond-true _ _ _ ((Decides-eqb (size_of columns) (vertices g)).1 size)) refl
    (cond-true _ _ _ ((Decides-eqb m (places g)).1 em))
    ∙ no_names (sources_of sources columns)

pub accepted_text : (g : RawGraph) (m : ℕ) (sources : List ℕ) (columns : Columns) → m ≡ places g → size_of columns ≡ vertices g → judged g sources columns ≡ Ok Yes → IsReadBack m sources columns →
    IsAccepted g (columns_text m sources columns)
accepted_text g m sources columns em size is_yes read =
    let w = witness_of_columns m sources columns in
    let verdict : judged_witness g None w ≡ Ok Yes = judged_witness-none g None w (not_refused g m sources columns em size) ∙ judged-named g sources columns ∙ is_yes in
    let P : Result Verdict Status → Type 0 = λ r. IsVerdictTold (codes "yes\n") r Done (codes "yes\n") in
    let Q : Result Witness WitnessFault → Type 0 = λ r. IsTold check g None r Done (codes "yes\n") in
    subst Q (sym (file_says m sources columns read)) (subst P (sym verdict) (refl, refl))

-- ---- what was judged

done_is_yes : (verdict : Verdict) (status : Status) → status ≡ verdict_status verdict → status ≡ Done → verdict ≡ Yes
done_is_yes Yes status is done = refl
done_is_yes (No vertex reason) status is done = absurd (cc)

-- columns that were judged, by the status and the text of the verdict
pub columns_judged : (g : RawGraph) (purpose : Purpose) (given : Option (List ℕ)) (w : Witness) (m : ℕ) (sources : List ℕ) (verdict : Verdict) (status : Status) (text : List ℕ) →
    refusal_of_witness g given w ≡ None → m ≡ places g → sources ≡ sources_meant w.sources given → judged g sources w.columns ≡ Ok verdict →
    (verdict ≡ Yes → AreBorneOut g sources w.columns) → IsReadBack m sources w.columns →
    status ≡ verdict_status verdict → text ≡ verdict_text (yes_text purpose m sources w.columns) verdict → IsJudged g purpose given (Ok w) status text
columns_judged g purpose given w m sources verdict status text goes em meant is sound read is_status is_text =
    let found : judged_witness g given w ≡ Ok verdict = judged_witness-none g given w goes ∙ ap (λ s. judged g s w.columns) (sym meant) ∙ is in
    let accepted = yes_text purpose (places g) (sources_meant w.sources given) w.columns in
    let same_text : text ≡ verdict_text accepted verdict =
    is_text ∙ ap (λ k. verdict_text (yes_text purpose k sources w.columns) verdict) em ∙ ap (λ s. verdict_text (yes_text purpose (places g) s w.columns) verdict) meant in
    let P : Result Verdict Status → Type 0 = λ r. IsVerdictTold accepted r status text in
    let Q : List ℕ → Type 0 = λ s. AreBorneOut g s w.columns in
    record {
      told = subst P (sym found) (is_status, same_text);
      sound = λ done. subst Q meant (sound (done_is_yes verdict status is_status done));
      accepted = λ up done.
          let is_yes : verdict ≡ Yes = done_is_yes verdict status is_status done in
          let whole : text ≡ columns_text m sources w.columns =
          is_text ∙ ap (λ v. verdict_text (yes_text purpose m sources w.columns) v) is_yes ∙ ap (λ p. yes_text p m sources w.columns) up in
          subst (IsAccepted g) (sym whole) (accepted_text g m sources w.columns em (size_same g given w goes) (is ∙ ap (λ v. Ok v) is_yes) read);
    }

-- a witness that is refused once it was read
refused_as : (g : RawGraph) (purpose : Purpose) (given : Option (List ℕ)) (w : Witness) (status : Status) → IsWitnessRefusal status → judged_witness g given w ≡ Err status →
    IsWitnessRefused g purpose given (Ok w) status
refused_as g purpose given w status stage is =
    let P : Result Verdict Status → Type 0 = λ r. IsVerdictTold (yes_text purpose (places g) (sources_meant w.sources given) w.columns) r status [] in
    inl (
      stage,
      record {
        told = subst P (sym is) (refl, refl);
        sound = λ done. absurd (omega (arith, stage, ap stage_of done));
        accepted = λ up done. absurd (omega (arith, stage, ap stage_of done));
      },
    )

pub witness_refused : (g : RawGraph) (purpose : Purpose) (given : Option (List ℕ)) (w : Witness) (status : Status) → refusal_of_witness g given w ≡ Some status →
    IsWitnessRefused g purpose given (Ok w) status
witness_refused g purpose given w status is =
    refused_as g purpose given w status (subst (λ (o : Option Status). IfSome o IsWitnessRefusal) is (refusals_told g given w)) (judged_witness-some g given w status is)

pub columns_refused : (g : RawGraph) (purpose : Purpose) (given : Option (List ℕ)) (w : Witness) (sources : List ℕ) (status : Status) → refusal_of_witness g given w ≡ None →
    sources ≡ sources_meant w.sources given → Judges (Err status) (judged g sources w.columns) → IsWitnessRefused g purpose given (Ok w) status
columns_refused g purpose given w sources status goes meant (inl (stage, is)) =
    refused_as g purpose given w status stage (judged_witness-none g given w goes ∙ ap (λ s. judged g s w.columns) (sym meant) ∙ is)
columns_refused g purpose given w sources status goes meant (inr memory) = inr memory

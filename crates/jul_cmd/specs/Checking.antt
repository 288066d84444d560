-- What is said of a witness, whoever wrote it.
use Rattle.std.specs.Prelude.{◌≡◌, ℕ, ◌+◌, ◌<◌, ◌++◌, List, [], ◌∷◌, length, slice_index, Option, Some, None, Result, Ok, Err, codes, decimal, ◌==◌, if◌then◌else◌}
use Rattle.std.specs.Option.{option_map}
use Rattle.jul_base.specs.declared.graphs.RawGraph.{RawGraph}
use Rattle.jul_base.specs.Graph.{vertices, places}
use Rattle.jul_base.specs.Distances.{AreDistances}
use Rattle.jul_base.specs.Coreness.{IsCoreness}
use Rattle.jul_base.specs.Shelves.{ShelfState}
use Rattle.jul_witness.specs.declared.faults.WitnessFault.{WitnessFault}
use Rattle.jul_witness.specs.declared.witnesses.Witness.{Witness}
use Rattle.jul_witness.specs.declared.witnesses.Columns.{Columns}
use Rattle.jul_witness.specs.declared.witnesses.Columns.TheVariants.{Cores, Distances, Cover}
use Rattle.jul_witness.specs.Texts.{columns_text}
use Rattle.jul_check.specs.declared.verdicts.Verdict.{Verdict}
use Rattle.jul_check.specs.declared.verdicts.Verdict.TheVariants as verdicts
use Rattle.jul_check.specs.declared.verdicts.Reason.{Reason}
use Rattle.jul_check.specs.Names.{reason_name}
use Rattle.jul_check.specs.CoreChecks.{cores_verdict}
use Rattle.jul_check.specs.DistanceChecks.{distances_verdict}
use Rattle.jul_check.specs.CoverChecks.{cover_verdict, HoldsEveryElement}
use Rattle.jul_query.specs.Queries.{Purpose, check, upgrade, meant}
use Rattle.jul_cmd.specs.declared.statuses.Status.{Status}
use Rattle.jul_cmd.specs.declared.statuses.Status.TheVariants.{Done, No, WitnessFault as FaultOfWitness, SizeDiffers, PlacesDiffer, SourcesDiffer}
use Rattle.jul_cmd.specs.Files.{witness_of_file, Says}
use Rattle.jul_cmd.specs.Suited.{refusal_of_sources}

-- ---- whether a witness goes with the graph and the words

-- the number of vertices of columns
abbrev pub size_of : Columns → ℕ
size_of (Cores c) = length c.core
size_of (Distances d) = length d.dist
size_of (Cover c) = length c.round

-- the refusal of columns of another number of vertices than the graph
abbrev pub refusal_of_size : ℕ → ℕ → Option Status
refusal_of_size n size = if size == n then None else Some (SizeDiffers size n)

-- the refusal of a witness that names another number of places than the graph has
abbrev pub refusal_of_places : ℕ → Option ℕ → Option Status
refusal_of_places m None = None
refusal_of_places m (Some named) = if named == m then None else Some (PlacesDiffer named m)

-- the least index, counted from a number, at which two lists don't have the same entry, or only one has an entry
abbrev pub difference_at : ℕ → List ℕ → List ℕ → Option ℕ
difference_at i [] [] = None
difference_at i [] (y ∷ ys) = Some i
difference_at i (x ∷ xs) [] = Some i
difference_at i (x ∷ xs) (y ∷ ys) = if x == y then difference_at (i + 1) xs ys else Some i

-- the refusal of a witness that names other sources than the words, where both name some; only distances name sources
abbrev pub refusal_of_names : Option (List ℕ) → Option (List ℕ) → Option Status
refusal_of_names (Some named) (Some given) = option_map (λ at. SourcesDiffer at) (difference_at 0 named given)
refusal_of_names (Some named) None = None
refusal_of_names None given = None

-- the first of two refusals
abbrev pub or_else : Option Status → Option Status → Option Status
or_else None later = later
or_else (Some refusal) later = Some refusal

-- the refusal of a witness that doesn't go with the graph, or with the sources that the words name
unfoldable pub refusal_of_witness : RawGraph → Option (List ℕ) → Witness → Option Status
refusal_of_witness g given w =
    or_else (refusal_of_size (vertices g) (size_of w.columns))
    (or_else (refusal_of_places (places g) w.places)
    (refusal_of_names w.sources given))

-- the sources of a witness: those that it names, and else those of the words
abbrev pub sources_meant : Option (List ℕ) → Option (List ℕ) → List ℕ
sources_meant (Some named) given = named
sources_meant None given = meant given

-- ---- the verdict

abbrev pub unless : Option Status → Result Verdict Status → Result Verdict Status
unless None verdict = verdict
unless (Some refusal) verdict = Err refusal

-- the verdict on columns of the graph's size; only distances need the sources
unfoldable pub judged : RawGraph → List ℕ → Columns → Result Verdict Status
judged g sources (Cores c) = Ok (cores_verdict g c)
judged g sources (Distances d) = unless (refusal_of_sources (vertices g) sources) (Ok (distances_verdict g sources d))
judged g sources (Cover c) = Ok (cover_verdict g c)

-- the verdict on a witness, or the first refusal, beside the sources that the words name
unfoldable pub judged_witness : RawGraph → Option (List ℕ) → Witness → Result Verdict Status
judged_witness g given w = unless (refusal_of_witness g given w) (judged g (sources_meant w.sources given) w.columns)

-- ---- what is written

-- what is written of columns that a graph of m places bears out: `yes`, or their text
abbrev pub yes_text : Purpose → ℕ → List ℕ → Columns → List ℕ
yes_text check m sources columns = codes "yes\n"
yes_text upgrade m sources columns = columns_text m sources columns

-- what is written of columns that a graph doesn't bear out: the vertex that fails, and its reason
abbrev pub no_text : ℕ → Reason → List ℕ
no_text vertex reason = codes "no " ++ decimal vertex ++ codes " " ++ reason_name reason ++ codes "\n"

abbrev pub verdict_status : Verdict → Status
verdict_status verdicts.Yes = Done
verdict_status (verdicts.No vertex reason) = No vertex reason

-- the text of a verdict, by that of a yes
abbrev pub verdict_text : List ℕ → Verdict → List ℕ
verdict_text accepted verdicts.Yes = accepted
verdict_text accepted (verdicts.No vertex reason) = no_text vertex reason

-- the status and the text of a verdict, by the text of a yes, and no text of a refusal
abbrev pub IsVerdictTold : List ℕ → Result Verdict Status → Status → List ℕ → Type 0
IsVerdictTold accepted (Ok verdict) status text = (status ≡ verdict_status verdict) × (text ≡ verdict_text accepted verdict)
IsVerdictTold accepted (Err refusal) status text = (status ≡ refusal) × (text ≡ [])

-- the status and the text of what a witness file says
abbrev pub IsTold : Purpose → RawGraph → Option (List ℕ) → Result Witness WitnessFault → Status → List ℕ → Type 0
IsTold purpose g given (Ok w) status text =
    IsVerdictTold (yes_text purpose (places g) (sources_meant w.sources given) w.columns) (judged_witness g given w) status text
IsTold purpose g given (Err fault) status text = (status ≡ FaultOfWitness fault) × (text ≡ [])

-- a check of this text on the same graph, where the words name no source, says yes
abbrev pub IsAccepted : RawGraph → List ℕ → Type 0
IsAccepted g text = IsTold check g None (witness_of_file text) Done (codes "yes\n")

-- ---- what a yes implies of the graph, whoever wrote the witness

abbrev pub AreBorneOut : RawGraph → List ℕ → Columns → Type 0
AreBorneOut g sources (Cores c) = (v : ℕ) → v < vertices g → IsCoreness g v (slice_index c.core v)
AreBorneOut g sources (Distances d) = AreDistances g sources d.dist
AreBorneOut g sources (Cover c) = HoldsEveryElement g c.round

abbrev pub IsBorneOut : RawGraph → Option (List ℕ) → Result Witness WitnessFault → Type 0
IsBorneOut g given (Ok w) = AreBorneOut g (sources_meant w.sources given) w.columns
IsBorneOut g given (Err fault) = ⊥

-- what a witness file says was judged, and the text of an upgrade is accepted
pub record IsJudged (g : RawGraph) (purpose : Purpose) (given : Option (List ℕ)) (said : Result Witness WitnessFault) (status : Status) (text : List ℕ) : Type 0 where
  pub told : IsTold purpose g given said status text
  pub sound : status ≡ Done → IsBorneOut g given said
  pub accepted : purpose ≡ upgrade → status ≡ Done → IsAccepted g text

-- the witness file of the name was judged
pub record IsChecked (shelf : ShelfState) (g : RawGraph) (purpose : Purpose) (name : List ℕ) (given : Option (List ℕ)) (status : Status) (text : List ℕ) : Type 0 where
  pub witness : Result Witness WitnessFault
  pub file : Says witness_of_file shelf name witness
  pub judged : IsJudged g purpose given witness status text

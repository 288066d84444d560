-- A file that is read in blocks.
use Rattle.std.proofs.Common.{◌≡◌, ℕ, ◌+◌, ◌<◌, ◌≤◌, List, ◌++◌, length, take, Option, Some, None, Result, Ok, Err, IfSome, refl, sym, ◌∙◌, subst, ap, arith, inl, inr}
use Rattle.std.specs.Option.{option_map}
use Rattle.std.specs.Prelude.{IfErr, IsErrAnd}
use Rattle.jul_adj.specs.declared.faults.StreamError.{StreamError}
use Rattle.std.proofs.lemmas.Bool.{cases_lt, lt-ltb, le-ltb, cond-true, cond-false}
use Rattle.std.proofs.lemmas.List.{take_all, length-append, length-take-le}
use Rattle.jul_base.specs.declared.graphs.RawGraph.{RawGraph}
use Rattle.jul_base.specs.Shelves.{ShelfState, Told, contents, after_open, after_read, files_and_last}
use Rattle.jul_base.specs.Loading.{bytes_of, IsLoaded, StoppedLoading}
use Rattle.jul_base.proofs.LoadingLaws.{IsLoading, IsLoading-more, IsLoaded-full, IsLoaded-end}
use Rattle.jul_text.specs.Tokens.{tokens}
use Rattle.jul_adj.specs.declared.faults.Fault.{Fault}
use Rattle.jul_adj.specs.declared.faults.FaultKind.TheVariants.{TooLong}
use Rattle.jul_adj.specs.declared.pipelines.Pipeline.{Pipeline}
use Rattle.jul_adj.specs.declared.faults.ReadError.{ReadError}
use Rattle.jul_adj.specs.declared.faults.ReadError.TheVariants as read_errors
use Rattle.jul_adj.specs.Names.{streamed}
use Rattle.jul_adj.specs.Reading.{reads, read_tokens, Fails, Gives}
use Rattle.jul_adj.specs.declared.blocks.Block.{Block}
use Rattle.jul_adj.specs.Blocks.{bytes_in, IsReadBlock}
use Rattle.jul_adj.specs.Pipelines.{HasReadOn, HasAdvanced}
use Rattle.jul_adj.specs.Streaming.{IsStreamed, IsUnread}
use Rattle.jul_adj.proofs.BlockLaws.{nothing_more}

-- as many bytes of the file were read
pub record IsStreaming (old now : ShelfState) (name : List ℕ) (read : ℕ) (p : Pipeline) : Type 0 where
  pub bytes : List ℕ
  pub loading : IsLoading old now name bytes
  pub held : HasReadOn bytes p
  pub count : length bytes ≡ read

-- what the first limit + 1 bytes say is what the file says
first_bytes_say : (limit : ℕ) (file bytes : List ℕ) → bytes ≡ take (limit + 1) file → reads file limit ≡ reads bytes limit
first_bytes_say limit file bytes e = elim (cases_lt limit (length file)) [
  | inl lt ↦ cond-true _ _ _ (lt-ltb limit (length file) lt) ∙ sym (cond-true _ _ _ (lt-ltb limit (length bytes) (omega (arith, ap length e, length-take-le (limit + 1) file (omega (arith, lt))))))
  | inr le ↦ ap (λ b. reads b limit) (sym (e ∙ take_all (limit + 1) file (omega (arith, le))))
]

file_of : (limit : ℕ) (o : Option Told) (name bytes : List ℕ) → IfSome o (λ t. contents t.files name ≡ Some (bytes_of t name)) → IfSome o (λ t. bytes ≡ take (limit + 1) (bytes_of t name)) →
    (file : List ℕ) × IfSome o (λ t. contents t.files name ≡ Some file) × (reads file limit ≡ reads bytes limit)
file_of limit None name bytes there first = (bytes, tt, refl)
file_of limit (Some t) name bytes there first = (bytes_of t name, there, first_bytes_say limit (bytes_of t name) bytes first)

-- a file whose first bytes were loaded
pub loaded_is_streamed : (old new : ShelfState) (name bytes : List ℕ) (limit : ℕ) (said : Result RawGraph Fault) → IsLoaded old new name bytes (limit + 1) → reads bytes limit ≡ said → IsStreamed old new name limit said
loaded_is_streamed old new name bytes limit said loaded is =
    let f = file_of limit old.told name bytes loaded.there loaded.first_bytes in
    record { file = f.0; there = f.1; is = f.2 ∙ is; rest = loaded.rest }

-- a file that isn't too long, and one that is
pub short_says : (bytes : List ℕ) (limit : ℕ) → length bytes ≤ limit → reads bytes limit ≡ read_tokens (tokens bytes) (length bytes)
short_says bytes limit le = cond-false _ _ _ (le-ltb limit (length bytes) le)

pub long_says : (bytes : List ℕ) (limit : ℕ) → limit < length bytes → reads bytes limit ≡ Err (record { kind = TooLong; token = 0; at = limit })
long_says bytes limit lt = cond-true _ _ _ (lt-ltb limit (length bytes) lt)

module _ (old now : ShelfState) (name : List ℕ) (limit read : ℕ) (p : Pipeline) (s : IsStreaming old now name read p) where
  -- nothing is left
  pub stream_end : (next : ShelfState) (most : ℕ) (b : Block) (said : Result RawGraph Fault) → read ≤ limit → b.count ≡ 0 → IsReadBlock now next most b →
      read_tokens (tokens s.bytes) (length s.bytes) ≡ said → IsStreamed old next name limit said
  stream_end next most b said le none r is =
      let short : length s.bytes ≤ limit = omega (arith, s.count, le) in
      let on = r.read in
      loaded_is_streamed old next name s.bytes limit said (IsLoaded-end old now next name s.bytes on.asked on.answer (limit + 1) b.count s.loading (omega (arith, short)) on.some none on.moves on.told) (short_says s.bytes limit short ∙ is)

  -- one byte more than a file may have was read
  pub stream_full : read ≡ limit + 1 → IsStreamed old now name limit (Err (record { kind = TooLong; token = 0; at = limit }))
  stream_full all =
      loaded_is_streamed old now name s.bytes limit _ (IsLoaded-full old now name s.bytes (limit + 1) s.loading (s.count ∙ all)) (long_says s.bytes limit (omega (arith, s.count, all)))

  -- one more block
  pub stream_more : (next : ShelfState) (most : ℕ) (p' : Pipeline) → IsReadBlock now next most p'.ahead → HasAdvanced p p' → IsStreaming old next name (read + p'.ahead.count) p'
  stream_more next most p' r advanced =
      let b = p'.ahead in
      let on = r.read in
      record {
        bytes = s.bytes ++ bytes_in b;
        loading = IsLoading-more old now next name s.bytes (s.bytes ++ bytes_in b) on.asked on.answer on.more b.count s.loading on.moves on.told on.within (ap (λ xs. s.bytes ++ xs) on.are);
        held = advanced.read s.bytes s.held;
        count = length-append s.bytes (bytes_in b) ∙ omega (arith, s.count, length-take-le b.count b.room.items r.block.within);
      }

  -- what the bytes say of which all were taken
  pub said_at_end : (p' : Pipeline) (g : Result RawGraph ReadError) → p'.ahead.count ≡ 0 → HasAdvanced p p' →
      ((bytes : List ℕ) → HasReadOn bytes p' → Gives g (read_tokens (tokens bytes) (length bytes))) → Gives g (read_tokens (tokens s.bytes) (length s.bytes))
  said_at_end p' g none advanced gives =
      subst (λ b. Gives g (read_tokens (tokens b) (length b))) (nothing_more s.bytes p'.ahead none) (gives (s.bytes ++ bytes_in p'.ahead) (advanced.read s.bytes s.held))

-- why a file that was read to its end has no graph
pub unread : (old new : ShelfState) (name : List ℕ) (limit : ℕ) (e : ReadError) (read : Result RawGraph Fault) → Fails e read → ((fault : Fault) → read ≡ Err fault → IsStreamed old new name limit (Err fault)) → StoppedLoading old new name → IsUnread old new name limit (streamed e)
unread old new name limit (read_errors.Bad fault) read fails streamed stopped = streamed fault fails
unread old new name limit read_errors.Memory read fails streamed stopped = stopped

-- a file that was opened, whatever was read of it
pub opened_last : (old now : ShelfState) (name bytes : List ℕ) → IsLoading old now name bytes → files_and_last now.told ≡ files_and_last (option_map (after_open name) old.told)
opened_last old now name bytes loading = ap files_and_last loading.rest ∙ same old.told where
  same : (o : Option Told) → files_and_last (option_map (λ t. after_read (length bytes) (after_open name t)) o) ≡ files_and_last (option_map (after_open name) o)
  same None = refl
  same (Some t) = refl

pub read_keeps : (o p : Option Told) (count : ℕ) → p ≡ option_map (after_read count) o → files_and_last p ≡ files_and_last o
read_keeps None p count e = ap files_and_last e
read_keeps (Some t) p count e = ap files_and_last e

pub err_unread : {Y : Type 0} (old new : ShelfState) (name : List ℕ) (limit : ℕ) (r : Result Y StreamError) (e : ReadError) → IsErrAnd r (λ x. x ≡ streamed e) → IsUnread old new name limit (streamed e) → IfErr r (IsUnread old new name limit)
err_unread old new name limit (Ok y) e is unread = tt
err_unread old new name limit (Err x) e is unread = subst (IsUnread old new name limit) (sym is) unread

-- What the server has after a connection.
use Rattle.std.proofs.Common.{◌≡◌, ◌≢◌, ◌≤◌, ◌<◌, ◌^◌, ℕ, List, [], ◌∷◌, ◌++◌, length, map, filter, replicate, zero, suc, Bool, true, false, cond, Ordering, Option, None, Some, Result, Ok, refl, sym, ap, ◌∙◌, subst, arith}
use Rattle.std.specs.Ordering.{is_eq}
use Rattle.std.specs.Cmp.{tied_itself}
use Rattle.std.specs.FinMap.{FinMap, entries, get, insert, get-insert, len-entries, len-empty}
use Rattle.std.specs.Str.{bytes_eq}
use Rattle.std.specs.Prelude.{slice_index_or, IfSome}
use Rattle.std.proofs.lemmas.List.{take_all}
use Rattle.std.proofs.lemmas.Slice.Eq.{bytes_eq-Decides}
use Rattle.budget_ports.specs.Contents.{Contents, Text, Place, text_cmp, place_cmp, nothing, of_entry, is_in, with_text, records_after}
use Rattle.budget_ports.proofs.Places.{text_total}
use Rattle.budget_ports.specs.Exchanges.{ended}
use Rattle.budget_ports.specs.MemoryDoor.{RoomState}
use Rattle.field_merge.specs.declared.message.Message.{Message}
use Rattle.field_merge.specs.Messages.{AreMessages}
use Rattle.field_merge.specs.Log.{join}
use Rattle.kept_messages.specs.Records.{kept_set}
use Rattle.sync_wire.specs.declared.request.SyncRequest.{SyncRequest}
use Rattle.sync_wire.specs.Laws.{MeaningsAreValid}
use Rattle.sync_server.specs.declared.refusal.Refusal.{Refusal}
use Rattle.sync_server.specs.declared.state.ServerState.{ServerState}
use Rattle.sync_server.specs.State.{Agrees}
use Rattle.sync_server.specs.declared.served.Served.TheVariants as served
use Rattle.sync_server.specs.Laws.{AcceptedAreKept, RequestsAreJudged, IsDecided, encrypted, no_since, no_file, other_group, bad_record, accepted}
use Rattle.sync_server.specs.Outside.{HasFound}
use Rattle.sync_server.specs.Serving.{Found, found_in, file_name, Verdict, Ends, Accepts, Refuses, DecidesBody, no_request, request, DecidesRest, refused, short, whole, Decides, by_head, too_large, no_head, bytes_end, Means, decided, keeper_fault, no_memory, kept_after, Visit, IsServed, IsMeant, answered}
use Rattle.device_sync.specs.Honest.{front_of, Served}
use Rattle.device_sync.specs.Requests.{IsAsked}
use Rattle.device_sync.specs.Served.{FitsHead, HasGroup, ServedIsHonest}
use Rattle.peer_link.specs.Place.{token, file, group}
use Rattle.peer_link.specs.Peer.{AsksGroup, IsAnswered}
use Rattle.peer_link.specs.Serving.{or_none, set_in, Serves}

-- what is accepted was found, and its messages are valid
record IsFound (k : Contents) (ms : List Message) (q : SyncRequest) : Type 0 where
  set : (found_in k q).set ≡ Ok ms
  valid : AreMessages q.messages

module _ (judged : RequestsAreJudged) (means : MeaningsAreValid) (k : Contents) (ms : List Message) (q : SyncRequest) where
  by_row : (p : SyncRequest) (found : Found) → HasFound k p found → AreMessages p.messages → IsDecided p found (Accepts ms q) → IsFound k ms q
  by_row p found is valid (encrypted a e) = absurd (cc)
  by_row p found is valid (no_since a b e) = absurd (cc)
  by_row p found is valid (no_file a b e) = absurd (cc)
  by_row p found is valid (other_group g a b c e) = absurd (cc)
  by_row p found is valid (bad_record i a b c e) = absurd (cc)
  by_row p found is valid (accepted ns a b c e) =
      let same : q ≡ p = cc in
      let sets : ms ≡ ns = cc in
      record {
        set = ap (λ (z : SyncRequest). (found_in k z).set) same ∙ sym (ap (λ (z : Found). z.set) is) ∙ c ∙ ap Ok (sym sets);
        valid = subst (λ (z : SyncRequest). AreMessages z.messages) (sym same) valid;
      }

  by_body : (body : List ℕ) → DecidesBody (HasFound k) body (Accepts ms q) → IsFound k ms q
  by_body body (no_request fault is e) = absurd (cc)
  by_body body (request p found is finds e) = by_row p found finds (means.requests body p is) ((judged p found (Accepts ms q)).0 (sym e))

  by_rest : (rest : List ℕ) (n : Result ℕ Refusal) → DecidesRest (HasFound k) rest n (Accepts ms q) → IsFound k ms q
  by_rest rest n (refused refusal e k) = absurd (cc)
  by_rest rest n (short m e less k) = absurd (cc)
  by_rest rest n (whole m e less d) = by_body _ d

  by_bytes : (came : List ℕ) → Decides token (HasFound k) came (Accepts ms q) → IsFound k ms q
  by_bytes came (by_head head more rest front has d) = by_rest rest _ d
  by_bytes came (too_large none many e) = absurd (cc)
  by_bytes came (no_head never e) = absurd (cc)
  by_bytes came (bytes_end none few e) = absurd (cc)

  by_meaning : (came : List ℕ) (failed : Bool) → Means token (HasFound k) came failed (Accepts ms q) → IsFound k ms q
  by_meaning came failed (decided fine d) = by_bytes came d
  by_meaning came failed (keeper_fault is asks e) = absurd (cc)
  by_meaning came failed (no_memory is e) = absurd (cc)

-- the group has a message set still, and the file its group
pub record Stays (k now : Contents) : Type 0 where
  pub texts : now.texts ≡ k.texts
  pub set : List Message
  pub set_is : kept_set (records_after now group []) ≡ Ok set

module _ (laws : AcceptedAreKept) (judged : RequestsAreJudged) (means : MeaningsAreValid) (k : Contents) (r : List Message) (has : kept_set (records_after k group []) ≡ Ok r) where
  by_group : (ms : List Message) (q : SyncRequest) → IsFound k ms q → (b : Bool) → bytes_eq q.group group ≡ b → Stays k (kept_after (Accepts ms q) k)
  by_group ms q found true is =
      let same : q.group ≡ group = (bytes_eq-Decides q.group group).0 is in
      record {
        texts = laws.texts k q ms;
        set = join ms q.messages;
        set_is = subst (λ (g : List ℕ). kept_set (records_after (kept_after (Accepts ms q) k) g []) ≡ Ok (join ms q.messages)) same (laws.joined k q ms found.valid found.set);
      }
  by_group ms q found false is =
      let other : group ≢ q.group = λ e. (let yes : bytes_eq q.group group ≡ true = (bytes_eq-Decides q.group group).1 (sym e) in absurd (let no : true ≡ false = sym yes ∙ is in cc)) in
      record {
        texts = laws.texts k q ms;
        set = r;
        set_is = ap kept_set (laws.others k q ms group other) ∙ has;
      }

  by_verdict : (v : Verdict) (came : List ℕ) (failed : Bool) → Means token (HasFound k) came failed v → Stays k (kept_after v k)
  by_verdict Ends came failed m = record { texts = refl; set = r; set_is = has }
  by_verdict (Refuses refusal) came failed m = record { texts = refl; set = r; set_is = has }
  by_verdict (Accepts ms q) came failed m = by_group ms q (by_meaning judged means k ms q came failed m) (bytes_eq q.group group) refl

  pub stays : (visit : Visit) (status : ℕ) → IsServed token (HasFound k) visit (served.Answered status) → Stays k (kept_after visit.verdict k)
  stays visit status (answered code m has_status wrote sound) = by_verdict visit.verdict visit.came visit.keeper_failed m

-- ---- the one connection

abbrev texts_in : List RoomState → List (List ℕ)
texts_in rooms = map (λ (room : RoomState). room.taken) rooms

-- what was written to it
pub written_to : (rooms : List RoomState) (past : ℕ) (wrote : List ℕ) → texts_in rooms ++ replicate past [] ≡ wrote ∷ [] → slice_index_or (texts_in rooms) 0 [] ≡ wrote
written_to [] zero wrote e = absurd (cc)
written_to [] (suc past) wrote e = cc
written_to (room ∷ rooms) past wrote e = cc

fits : FitsHead token
fits = record { plain = refl; first = refl; last = refl }

pub served_so : ServedIsHonest → AcceptedAreKept → RequestsAreJudged → MeaningsAreValid → (came reply : List ℕ) (before after : ServerState) (k now : Contents) (visit : Visit) (status : ℕ)
    → AsksGroup came → length came ≤ 268_435_456 → length reply ≤ 16_777_216 → Serves before k → Agrees after now → after.token ≡ before.token
    → came ≡ visit.came → reply ≡ visit.wrote → IsServed before.token (HasFound k) visit (served.Answered status) → IsMeant visit.verdict → now ≡ kept_after visit.verdict k
    → Serves after now × IsAnswered (set_in k) came reply (set_in now)
served_so honest laws judged means came reply before after k now visit status asks few brief serves agrees same_token came_is wrote_is how meant keeps =
    let q = asks.request in
    let how_so : IsServed token (HasFound k) visit (served.Answered status) = subst (λ (t : List ℕ). IsServed t (HasFound k) visit (served.Answered status)) serves.token_is how in
    let st = stays laws judged means k (set_in k) serves.set_is visit status how_so in
    let set_now : kept_set (records_after now group []) ≡ Ok st.set = ap (λ (c : Contents). kept_set (records_after c group [])) keeps ∙ st.set_is in
    let set_then : set_in now ≡ st.set = ap or_none set_now in
    let set_after : kept_set (records_after (kept_after visit.verdict k) q.group []) ≡ Ok (set_in now) =
    ap (λ (g : List ℕ). kept_set (records_after (kept_after visit.verdict k) g [])) asks.fits.group_is ∙ st.set_is ∙ ap Ok (sym set_then) in
    let has : HasGroup k q (set_in k) = record {
      file = ap (λ (f : List ℕ). get k.texts (file_name f)) asks.fits.file_is ∙ serves.file_is ∙ ap Some (sym asks.fits.group_is);
      set = ap (λ (g : List ℕ). kept_set (records_after k g [])) asks.fits.group_is ∙ serves.set_is;
    } in
    let asked_so : IsAsked token q visit.came = subst (λ (c : List ℕ). IsAsked token q c) came_is asks.asked in
    let few_came : length visit.came < 10 ^ 18 = omega (arith, few, ap length came_is) in
    let few_wrote : length visit.wrote < 10 ^ 18 = omega (arith, brief, ap length wrote_is) in
    let said = honest token k q (set_in k) (set_in now) visit status fits asks.fits.device asked_so has few_came few_wrote meant how_so set_after in
    let front : front_of visit.wrote ≡ reply = take_all 268_435_457 visit.wrote (omega (arith, brief, ap length wrote_is)) ∙ sym wrote_is in (
      record {
        token_is = same_token ∙ serves.token_is;
        agrees = agrees;
        file_is = ap (λ (c : Contents). get c.texts (file_name file)) keeps ∙ ap (λ (ts : FinMap text_cmp Text). get ts (file_name file)) st.texts ∙ serves.file_is;
        set_is = set_now ∙ ap Ok (sym set_then);
      },
      record {
        served = subst (λ (c : List ℕ). Served token (set_in k) (ended c reply) (set_in now)) (sym came_is) (subst (λ (w : List ℕ). Served token (set_in k) (ended visit.came w) (set_in now)) front said);
        within = omega (arith, brief);
      },
    )

-- of what is there two facts hold, and so a third
pub if_both : {A : Type 0} {P Q R : A → Type 0} (r : Option A) → ((x : A) → P x → Q x → R x) → IfSome r P → IfSome r Q → IfSome r R
if_both None f one other = tt
if_both (Some x) f one other = f x one other

-- ---- before the first connection

get_own : (m : FinMap text_cmp Text) (name text : Text) → get (insert m name text) name ≡ Some text
get_own m name text = get-insert text_total m name text name ∙ ap (λ (o : Ordering). cond (is_eq o) (Some text) (get m name)) (tied_itself text_total name)

abbrev first_contents : Contents
first_contents = with_text nothing (file_name file) group

no_items : {A : Type 0} (xs : List A) → length xs ≡ 0 → xs ≡ []
no_items [] e = refl
no_items (x ∷ xs) e = absurd (omega (arith, e))

no_entries : entries nothing.records ≡ []
no_entries = no_items (entries nothing.records) (sym (len-entries nothing.records) ∙ len-empty place_cmp Text)

none_kept : kept_set (records_after first_contents group []) ≡ Ok []
none_kept = ap (λ (es : List (Place × Text)). kept_set (map of_entry (filter (is_in group []) es))) no_entries

pub begins_empty : (k : Contents) → k ≡ first_contents → set_in k ≡ []
begins_empty k is = ap (λ (c : Contents). set_in c) is ∙ ap or_none none_kept

pub begins : (state : ServerState) (k : Contents) → state.token ≡ token → Agrees state k → k ≡ first_contents → Serves state k
begins state k same agrees is = record {
  token_is = same;
  agrees = agrees;
  file_is = ap (λ (c : Contents). get c.texts (file_name file)) is ∙ get_own nothing.texts (file_name file) group;
  set_is = ap (λ (c : Contents). kept_set (records_after c group [])) is ∙ none_kept ∙ ap Ok (sym (begins_empty k is));
}

-- A worked history with the names that SHA-384 gives: what the second of two members does in six syncs in turn, of which
-- it then publishes all fame. So the premises of the laws can be met
use Rattle.std.proofs.Common.{◌≡◌, ℕ, ◌<◌, ◌^◌, true, List, [], ◌∷◌, ◌++◌, length, Some, None, sym, refl, ap, arith}
use Rattle.std.specs.Prelude.{replicate, IfSome}
use Rattle.std.specs.Int.{w64, to_be_bytes}
use Rattle.std.proofs.lemmas.List.{length-replicate}
use Rattle.sha2.specs.Sha512.{sha384, first_words, schedule, rounds, compress, hash_after, digest_bytes}
use Rattle.hg_model.specs.declared.row.Row.{Row}
use Rattle.hg_life.specs.declared.answers.MakeAnswer.TheVariants as answer
use Rattle.hg_model.specs.Places.{weight_below, some_below, least_below, values_below, by_place, reaches}
use Rattle.hg_model.specs.Links.{ParentNames, links, parents, self_parent, creator}
use Rattle.hg_model.specs.Stakes.{Stakes, total}
use Rattle.hg_model.specs.Ancestry.{is_ancestor, is_self_ancestor}
use Rattle.hg_model.specs.Forks.{is_fork, has_fork_below, has_fork, forking}
use Rattle.hg_model.specs.Seeing.{sees, sees_through, strongly_sees}
use Rattle.hg_model.specs.Rounds.{round_of, is_witness}
use Rattle.hg_model.specs.Votes.{vote_of, decides}
use Rattle.hg_model.specs.Fame.{fame_of, is_closed}
use Rattle.hg_model.specs.Order.{coin_at, sig_at}
use Rattle.hg_life.specs.Spelling.{AreNames, body_of, spelling, Spells}
use Rattle.hg_life.specs.Verdict.{making}
use Rattle.hg_model.specs.Shares.{whole, share_fame}
use Rattle.hg_life.specs.History.{Change, replay, news, IsTaken, IsMade, MarksSome, IsHistory}
use Rattle.hg_life.specs.History.Change.{Took, Made, Marked}
use Rattle.hg_life.specs.Terms.{Terms, row_limit}
use Rattle.hg_history.proofs.SoundLaws.{history_push}

-- the stakes of so many members
abbrev pub members : ℕ → Stakes
members k = replicate k 1

-- a name of 48 bytes, as six words
abbrev name : ℕ → ℕ → ℕ → ℕ → ℕ → ℕ → List ℕ
name a b c d e f = to_be_bytes w64 a ++ (to_be_bytes w64 b ++ (to_be_bytes w64 c ++ (to_be_bytes w64 d ++ (to_be_bytes w64 e ++ to_be_bytes w64 f))))

-- an event without payload, whose signature repeats its time
abbrev pub row : ℕ → ParentNames → ℕ → List ℕ → Row
row m parents time name = record { creator = m; parents = parents; time = time; payload = []; sig = replicate 64 time; name = name }

-- each signature is accepted, and there may be many rows
abbrev pub all : Terms
all = record { accepts = λ m body sig. true; limit = row_limit }

event : (m : ℕ) (parents : ParentNames) (time : ℕ) (name : List ℕ) → m < 2 ^ 16 → IfSome parents AreNames → time < 2 ^ 64 →
    sha384 (spelling (row m parents time name)) ≡ name → Spells (spelling (row m parents time name)) (row m parents time name)
event m parents time name small sizes early named = record {
  sized = record { creator = small; parents = sizes; time = early; payload = omega arith; sig = length-replicate 64 time };
  spelled = refl;
  named = sym named;
}

pair : (own other : List ℕ) → length own ≡ 48 → length other ≡ 48 → AreNames (own, other ∷ [])
pair own other first second = record { few = refl; first = first; others = (second, tt) }

-- the names, as another program computes them

abbrev pub name0 : List ℕ
name0 = name 0xC562115D776BF4EA 0x7D34A3095989C4AA 0xD3F9CBC3B922E2D4 0x85A32D85E6D12DF9 0xA5A314E66D3FDCE3 0x9889F90FC95423C7

abbrev pub name1 : List ℕ
name1 = name 0xC620B0FD36DCB69A 0x73D6FC131F7B7177 0x30B19BAC7DE00ABC 0x333D271710B2AA73 0x372EAB66AD7BAFFE 0x5B07A557002096F0

abbrev pub name2 : List ℕ
name2 = name 0x920D0C27D41A8603 0x6334FA3F951E9018 0x972A50D198E049B6 0xFF82254AE1ADAE9F 0x1266BB10B5EA932E 0x14B7B911C4C22508

abbrev pub name3 : List ℕ
name3 = name 0x79F3BC75ABC68F6E 0xF097D9EA712B397A 0x72B46F813DEBE6D2 0x2D1D0138C4F37444 0x60E1702380168764 0xCA328705146D2F4C

abbrev pub name4 : List ℕ
name4 = name 0x0A1BEBBD23DD9D08 0x2992ACE6C3B4D014 0x954E1AE09A21C038 0x528852E14F07C679 0x218E55C29F2B08BF 0xF2CF2E7A3B3FECED

abbrev pub name5 : List ℕ
name5 = name 0x68EE0295182076DE 0x49813FD1C5C2A12C 0x0B8943559ACBD109 0x1CE84748BB6337B3 0x7110D4DF79398FA1 0x2F8CFFB2BD9DA4D0

abbrev pub name6 : List ℕ
name6 = name 0x18655544486EDA18 0x7820D0F5C1E173AE 0xFA45BA7E747AC93A 0x3762CD05ABAD1B00 0x4AA076B9FC3F188A 0x0E43939360CE3138

abbrev pub name7 : List ℕ
name7 = name 0x60F1ACFB9CB1F0CB 0x60506E5C9FFC8701 0xFCED7C67886DC840 0x390F8D80A6A99DE3 0x57AC35D538623DFA 0xD6ECD72262B82CE0

abbrev pub row0 : Row
row0 = row 1 None 2 name0

pub named0 : sha384 (spelling row0) ≡ name0
unfolding body_of spelling first_words schedule rounds compress hash_after digest_bytes sha384
named0 = refl

pub event0 : Spells (spelling row0) row0
event0 = event 1 None 2 name0 (omega arith) tt (omega arith) named0

abbrev pub row1 : Row
row1 = row 0 None 1 name1

pub named1 : sha384 (spelling row1) ≡ name1
unfolding body_of spelling first_words schedule rounds compress hash_after digest_bytes sha384
named1 = refl

pub event1 : Spells (spelling row1) row1
event1 = event 0 None 1 name1 (omega arith) tt (omega arith) named1

abbrev pub row2 : Row
row2 = row 0 (Some (name1, name0 ∷ [])) 3 name2

pub named2 : sha384 (spelling row2) ≡ name2
unfolding body_of spelling first_words schedule rounds compress hash_after digest_bytes sha384
named2 = refl

pub event2 : Spells (spelling row2) row2
event2 = event 0 (Some (name1, name0 ∷ [])) 3 name2 (omega arith) (pair name1 name0 refl refl) (omega arith) named2

abbrev pub row3 : Row
row3 = row 1 (Some (name0, name2 ∷ [])) 4 name3

pub named3 : sha384 (spelling row3) ≡ name3
unfolding body_of spelling first_words schedule rounds compress hash_after digest_bytes sha384
named3 = refl

pub event3 : Spells (spelling row3) row3
event3 = event 1 (Some (name0, name2 ∷ [])) 4 name3 (omega arith) (pair name0 name2 refl refl) (omega arith) named3

abbrev pub row4 : Row
row4 = row 0 (Some (name2, name3 ∷ [])) 5 name4

pub named4 : sha384 (spelling row4) ≡ name4
unfolding body_of spelling first_words schedule rounds compress hash_after digest_bytes sha384
named4 = refl

pub event4 : Spells (spelling row4) row4
event4 = event 0 (Some (name2, name3 ∷ [])) 5 name4 (omega arith) (pair name2 name3 refl refl) (omega arith) named4

abbrev pub row5 : Row
row5 = row 1 (Some (name3, name4 ∷ [])) 6 name5

pub named5 : sha384 (spelling row5) ≡ name5
unfolding body_of spelling first_words schedule rounds compress hash_after digest_bytes sha384
named5 = refl

pub event5 : Spells (spelling row5) row5
event5 = event 1 (Some (name3, name4 ∷ [])) 6 name5 (omega arith) (pair name3 name4 refl refl) (omega arith) named5

abbrev pub row6 : Row
row6 = row 0 (Some (name4, name5 ∷ [])) 7 name6

pub named6 : sha384 (spelling row6) ≡ name6
unfolding body_of spelling first_words schedule rounds compress hash_after digest_bytes sha384
named6 = refl

pub event6 : Spells (spelling row6) row6
event6 = event 0 (Some (name4, name5 ∷ [])) 7 name6 (omega arith) (pair name4 name5 refl refl) (omega arith) named6

abbrev pub row7 : Row
row7 = row 1 (Some (name5, name6 ∷ [])) 8 name7

pub named7 : sha384 (spelling row7) ≡ name7
unfolding body_of spelling first_words schedule rounds compress hash_after digest_bytes sha384
named7 = refl

pub event7 : Spells (spelling row7) row7
event7 = event 1 (Some (name5, name6 ∷ [])) 8 name7 (omega arith) (pair name5 name6 refl refl) (omega arith) named7

-- one on two rows of the other member

abbrev name8 : List ℕ
name8 = name 0x9310583AA9A45F1A 0xBC6C150529835DB1 0xB77FFC04950FD4EC 0x4F1D337966B8234F 0x5CE3C2DD10C7F2AC 0xA4EB053381C6C251

abbrev row8 : Row
row8 = row 0 (Some (name6, name7 ∷ name5 ∷ [])) 9 name8

named8 : sha384 (spelling row8) ≡ name8
unfolding body_of spelling first_words schedule rounds compress hash_after digest_bytes sha384
named8 = refl

event8 : Spells (spelling row8) row8
event8 = event 0 (Some (name6, name7 ∷ name5 ∷ [])) 9 name8 (omega arith) (record { few = refl; first = refl; others = (refl, (refl, tt)) }) (omega arith) named8

making0 : making row_limit 1 ([]) [] 2 [] (replicate 64 2) ≡ answer.Made 0
unfolding first_words schedule rounds compress hash_after digest_bytes sha384
making0 = refl

made0 : IsMade all 1 ([]) row0
unfolding body_of spelling
made0 = record {
  others = [];
  time = 2;
  payload = [];
  sig = replicate 64 2;
  fields = ap (λ (name : List ℕ). row 1 None 2 name) (sym named0);
  spelled = event0;
  signed = refl;
  made = making0;
}

taken1 : IsTaken all (members 2) 1 (row0 ∷ []) row1
unfolding forking total has_fork is_fork is_self_ancestor weight_below some_below reaches by_place values_below self_parent parents creator links
taken1 = record { spelled = event1; accepted = refl }

taken2 : IsTaken all (members 2) 1 (row0 ∷ row1 ∷ []) row2
unfolding forking total has_fork is_fork is_self_ancestor weight_below some_below reaches by_place values_below self_parent parents creator links
taken2 = record { spelled = event2; accepted = refl }

making3 : making row_limit 1 (row0 ∷ row1 ∷ row2 ∷ []) (name2 ∷ []) 4 [] (replicate 64 4) ≡ answer.Made 3
unfolding first_words schedule rounds compress hash_after digest_bytes sha384
making3 = refl

made3 : IsMade all 1 (row0 ∷ row1 ∷ row2 ∷ []) row3
unfolding body_of spelling
made3 = record {
  others = name2 ∷ [];
  time = 4;
  payload = [];
  sig = replicate 64 4;
  fields = ap (λ (name : List ℕ). row 1 (Some (name0, name2 ∷ [])) 4 name) (sym named3);
  spelled = event3;
  signed = refl;
  made = making3;
}

taken4 : IsTaken all (members 2) 1 (row0 ∷ row1 ∷ row2 ∷ row3 ∷ []) row4
unfolding forking total has_fork is_fork is_self_ancestor weight_below some_below reaches by_place values_below self_parent parents creator links
taken4 = record { spelled = event4; accepted = refl }

making5 : making row_limit 1 (row0 ∷ row1 ∷ row2 ∷ row3 ∷ row4 ∷ []) (name4 ∷ []) 6 [] (replicate 64 6) ≡ answer.Made 5
unfolding first_words schedule rounds compress hash_after digest_bytes sha384
making5 = refl

made5 : IsMade all 1 (row0 ∷ row1 ∷ row2 ∷ row3 ∷ row4 ∷ []) row5
unfolding body_of spelling
made5 = record {
  others = name4 ∷ [];
  time = 6;
  payload = [];
  sig = replicate 64 6;
  fields = ap (λ (name : List ℕ). row 1 (Some (name3, name4 ∷ [])) 6 name) (sym named5);
  spelled = event5;
  signed = refl;
  made = making5;
}

taken6 : IsTaken all (members 2) 1 (row0 ∷ row1 ∷ row2 ∷ row3 ∷ row4 ∷ row5 ∷ []) row6
unfolding forking total has_fork is_fork is_self_ancestor weight_below some_below reaches by_place values_below self_parent parents creator links
taken6 = record { spelled = event6; accepted = refl }

making7 : making row_limit 1 (row0 ∷ row1 ∷ row2 ∷ row3 ∷ row4 ∷ row5 ∷ row6 ∷ []) (name6 ∷ []) 8 [] (replicate 64 8) ≡ answer.Made 7
unfolding first_words schedule rounds compress hash_after digest_bytes sha384
making7 = refl

made7 : IsMade all 1 (row0 ∷ row1 ∷ row2 ∷ row3 ∷ row4 ∷ row5 ∷ row6 ∷ []) row7
unfolding body_of spelling
made7 = record {
  others = name6 ∷ [];
  time = 8;
  payload = [];
  sig = replicate 64 8;
  fields = ap (λ (name : List ℕ). row 1 (Some (name5, name6 ∷ [])) 8 name) (sym named7);
  spelled = event7;
  signed = refl;
  made = making7;
}

abbrev pub events : List Change
events = Made row0 ∷ Took row1 ∷ Took row2 ∷ Made row3 ∷ Took row4 ∷ Made row5 ∷ Took row6 ∷ Made row7 ∷ []

four_news : news (members 2) 10 (replay (members 2) 10 events) 8 whole ≡ 4
unfolding replay news share_fame fame_of least_below decides vote_of coin_at sig_at is_closed is_witness round_of strongly_sees sees_through sees has_fork_below is_fork is_ancestor is_self_ancestor total weight_below some_below reaches by_place values_below parents self_parent creator links
four_news = refl

some_news : MarksSome (members 2) 10 (replay (members 2) 10 events) 8 whole
unfolding replay
some_news = record { within = omega arith; some = omega (arith, four_news) }

pub two_weigh : 0 < total (members 2)
unfolding total weight_below
two_weigh = omega arith

-- these events are a history of the second member
pub worked : IsHistory all (members 2) 10 1 (events ++ Marked 8 whole ∷ [])
unfolding replay
worked = record {
  member = omega arith;
  stake = two_weigh;
  steps = (made0, (taken1, (taken2, (made3, (taken4, (made5, (taken6, (made7, (some_news, tt)))))))));
}

-- then a row on two others may come
taken8 : IsTaken all (members 2) 1 (row0 ∷ row1 ∷ row2 ∷ row3 ∷ row4 ∷ row5 ∷ row6 ∷ row7 ∷ []) row8
unfolding forking total has_fork is_fork is_self_ancestor weight_below some_below reaches by_place values_below self_parent parents creator links
taken8 = record { spelled = event8; accepted = refl }

worked_on_two : IsHistory all (members 2) 10 1 ((events ++ Marked 8 whole ∷ []) ++ Took row8 ∷ [])
unfolding replay
worked_on_two = history_push all (members 2) 10 1 (events ++ Marked 8 whole ∷ []) (Took row8) worked taken8

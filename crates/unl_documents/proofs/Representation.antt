-- The JSON value that a document is written as represents that document.
use Rattle.std.proofs.Common.{◌≡◌, List, [], ◌∷◌, map, Some, refl, arith}
use Rattle.std.specs.Prelude.{All}
use Rattle.std.proofs.lemmas.List.Elements.{All-tail}
use Rattle.std.proofs.lemmas.List.Sorted.{IsPermutation-refl}
use Rattle.serde_json.specs.Data.{Data}
use Rattle.serde_json.specs.View.{items_of}
use Rattle.unl_documents.specs.declared.feature.Feature.{Feature}
use Rattle.unl_documents.specs.declared.feed.FeedHead.{FeedHead}
use Rattle.unl_documents.specs.declared.field.Field.{Field}
use Rattle.unl_documents.specs.declared.field.Field.TheVariants as field
use Rattle.unl_documents.specs.declared.segment.Segment.{Segment}
use Rattle.unl_documents.specs.declared.state.State.{State}
use Rattle.unl_documents.specs.Kinds.{at}
use Rattle.unl_documents.specs.Reads.{AreEach, IsList, IsObject, HasOr, ReadsFeature, ReadsSegment, ReadsMeta, ReadsFeed}
use Rattle.unl_documents.specs.States.{no_meta, meta_of, IsValidState}
use Rattle.unl_documents.specs.Valid.{IsValidFeature, IsValidSegment}
use Rattle.unl_documents.specs.Writing.{feature_data, segment_data, meta_with, meta_data, feed_data}
use Rattle.unl_documents.specs.Writing.{list_data}
use Rattle.unl_documents.proofs.RoundTrip.{features, segments}
use Rattle.unl_documents.proofs.FeedTrip.{meta_back}
use Rattle.unl_documents.proofs.Sound.{object_is, meta_is, feature_is, segment_is}

pub feature_represented : (f : Feature) → IsValidFeature f → ReadsFeature (feature_data f) f
feature_represented f valid = feature_is (feature_data f) f (features.back f valid)

pub segment_represented : (s : Segment) → IsValidSegment s → ReadsSegment (segment_data s) s
segment_represented s valid = segment_is (segment_data s) s (segments.back s valid)

each_represented : {T : Type 0} (reads : Data → T → Type 0) (written : T → Data) (P : T → Type 0) → ((x : T) → P x → reads (written x) x) → (xs : List T) → All P xs → AreEach reads (items_of (map written xs)) xs
each_represented reads written P one [] valid = tt
each_represented reads written P one (x ∷ xs) valid = (one x (valid 0 x (omega arith)), each_represented reads written P one xs (All-tail P x xs valid))

has_or_at : {T : Type 0} (default : T) (Is : Data → T → Type 0) (f : Field) (value found : Data) (x : T) → at f value ≡ Some found → Is found x → HasOr default Is f value x
has_or_at default Is f value found x here is = rw here is

meta_represented : (head : FeedHead) → IsObject ReadsMeta (meta_data head) (record { epoch = head.epoch; number = Some head.number })
meta_represented head = object_is meta_of ReadsMeta field.Meta meta_is (meta_data head) (record { epoch = head.epoch; number = Some head.number }) (meta_back head)

-- The value of a feed represents the feed, for any number of features and segments.
pub feed_represented : (head : FeedHead) (s : State) → IsValidState s → ReadsFeed (feed_data head s) (record { epoch = head.epoch; state = s; number = Some head.number })
unfolding feed_data meta_data meta_with at
feed_represented head s valid =
    let value = feed_data head s in
    let fs = each_represented (IsObject ReadsFeature) feature_data IsValidFeature (λ f v. (features.is_one f, feature_represented f v)) s.features valid.features in
    let ss = each_represented (IsObject ReadsSegment) segment_data IsValidSegment (λ g v. (segments.is_one g, segment_represented g v)) s.segments valid.segments in
    record {
      state = record {
        features = (s.features, has_or_at [] (IsList (IsObject ReadsFeature)) field.Features value (list_data feature_data s.features) s.features refl (items_of (map feature_data s.features), refl, fs), record { same = IsPermutation-refl s.features; rising = valid.names });
        segments = (s.segments, has_or_at [] (IsList (IsObject ReadsSegment)) field.Segments value (list_data segment_data s.segments) s.segments refl (items_of (map segment_data s.segments), refl, ss), record { same = IsPermutation-refl s.segments; rising = valid.ids });
      };
      meta = has_or_at no_meta (IsObject ReadsMeta) field.Meta value (meta_data head) (record { epoch = head.epoch; number = Some head.number }) refl (meta_represented head);
    }

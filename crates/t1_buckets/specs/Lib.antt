pub mod BucketPlaces
pub mod Buckets

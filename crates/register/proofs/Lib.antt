pub mod ReplicaLaws
